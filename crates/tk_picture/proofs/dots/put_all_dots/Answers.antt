use Rattle.std.proofs.Common.{◌≡◌, ◌-◌, length, arith}
use Rattle.tk_problem.specs.PlacesOf.{places_of}
use Rattle.tk_writers.proofs.MatrixLines.{lines_more}
use Rattle.tk_writers.proofs.Pieces.Putting.{Puts-then}
use Rattle.tk_picture.specs.PictureText.{dot}
use Rattle.tk_picture.specs.Views.{spot_in}
use Rattle.tk_picture.proofs.dots.put_all_dots.Goals as goal

pub loop-city-preserved : goal.loop-city-preserved
loop-city-preserved g c =
    let view = c.args.view.now in
    rw (lines_more (dot (spot_in view)) c.loop-city.city c.loop-city.auto.city)
    (Puts-then c.loop-city.invariant c.put_dot.ensures)

pub returns : goal.returns
returns g c =
    let view = c.args.view.now in
    let all : c.loop-city.city - 1 ≡ length (places_of view.places) =
    omega (arith, c.loop-city.auto.city-end, c.size-city-end.ensures.value) in
    Puts-then (Puts-then (rw c.size.ensures.value at c.put_dots_start.ensures) (rw all at c.loop-city.invariant))
    c.put.ensures
