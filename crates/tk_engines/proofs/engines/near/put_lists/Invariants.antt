-- the lists of the cities before this one are put
use Rattle.std.proofs.Common.{◌-◌}
use Rattle.std.specs.Prelude.{flat_map}
use Rattle.std.specs.List.{range_with_len}
use Rattle.tk_near.specs.Near.{near_of}
use Rattle.tk_writers.specs.Pens.{Puts}
use Rattle.tk_writers.specs.Written.{near_line}
use Rattle.tk_engines.proofs.engines.near.put_lists.Given as goal

abbrev pub invariant-loop-city : goal.invariant-loop-city
invariant-loop-city g l =
    Puts g.W.Sink l.initial.pen l.pen
    (flat_map (λ c. near_line c (near_of l.near c)) (range_with_len 1 (l.city - 1)))
