-- the cities before this one are put
use Rattle.std.proofs.Common.{◌-◌}
use Rattle.std.specs.Prelude.{flat_map}
use Rattle.std.specs.List.{range_with_len}
use Rattle.tk_writers.specs.Pens.{Puts}
use Rattle.tk_picture.specs.PictureText.{dot}
use Rattle.tk_picture.specs.Views.{spot_in}
use Rattle.tk_picture.proofs.dots.put_all_dots.Given as goal

abbrev pub invariant-loop-city : goal.invariant-loop-city
invariant-loop-city g l =
    Puts g.W.Sink l.initial.pen l.pen
    (flat_map (dot (spot_in l.view)) (range_with_len 1 (l.city - 1)))
