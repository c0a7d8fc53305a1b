use Rattle.std.proofs.Common.{ap, rules, ◌∙◌}
use Rattle.std.proofs.lemmas.Int.{to_z-of_z}
use mir.Syntax.{w64}
use Rattle.tk_problem.specs.declared.point.Point.{Point}
use Rattle.tk_writers.proofs.Pieces.Putting.{Puts-then}
use Rattle.tk_picture.proofs.page.cities.put_coordinates.Goals as goal

pub returns : goal.returns
returns g c =
    let place = c.get-place.result in
    let x = to_z-of_z w64 place.x (search rules) ∙ ap (λ (p : Point). p.x) c.get-place.ensures in
    let y = to_z-of_z w64 place.y (search rules) ∙ ap (λ (p : Point). p.y) c.get-place.ensures in
    Puts-then (Puts-then (rw x at c.put_signed.ensures) c.put.ensures) (rw y at c.put_signed-2.ensures)
