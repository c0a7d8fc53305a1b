-- the cities before this one are put
use Rattle.std.proofs.Common.{take}
use Rattle.std.specs.Prelude.{flat_map}
use Rattle.tk_writers.specs.Pens.{Puts}
use Rattle.tk_writers.specs.Written.{line}
use Rattle.tk_picture.specs.Views.{spot_in}
use Rattle.tk_picture.proofs.view.View.put_corners.Given as goal

abbrev pub invariant-loop-city : goal.invariant-loop-city
invariant-loop-city g l =
    Puts g.W.Sink l.initial.pen l.pen
    (flat_map (λ c. line (spot_in l.self c)) (take l.city-index l.cities))
