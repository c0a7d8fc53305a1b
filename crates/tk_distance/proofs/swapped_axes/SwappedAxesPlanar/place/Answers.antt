use Rattle.std.proofs.Common.{rules, w64, SFits, ℤ, ap, of_z, to_z, ◌∙◌}
use Rattle.std.proofs.lemmas.Int.{to_z-of_z}
use Rattle.tk_problem.specs.declared.point.Point.{Point}
use Rattle.tk_distance.specs.SwappedAxes.{turned}
use Rattle.tk_distance.proofs.swapped_axes.SwappedAxesPlanar.place.Goals as goal

pub returns : goal.returns
returns g c =
    let there = c.place-place.result in
    let at : ℤ → ℤ → Point = λ x y. record { x = x; y = y } in
    let x_fits : SFits w64 there.x = search rules in
    let y_fits : SFits w64 there.y = search rules in
    ap (λ x. at x (to_z w64 (of_z w64 there.x))) (to_z-of_z w64 there.y y_fits)
    ∙ ap (at there.y) (to_z-of_z w64 there.x x_fits) ∙ ap turned c.place-place.ensures
