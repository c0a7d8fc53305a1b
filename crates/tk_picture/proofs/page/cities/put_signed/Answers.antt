use Rattle.std.proofs.Common.{◌≡◌, ap, rules, subst, ◌∙◌, ◌++◌}
use Rattle.std.specs.Prelude.{ℤ, pos, true, int_lt, codes, decimal}
use Rattle.std.specs.Int.RustNames.{unsigned_abs}
use Rattle.std.proofs.lemmas.Int.{to_z-of_z}
use mir.Syntax.{w64}
use mir.Val.{of_z, to_z}
use Rattle.tk_writers.specs.Pens.{Puts}
use Rattle.tk_writers.proofs.Pieces.Putting.{Puts-then}
use Rattle.tk_picture.proofs.CityWords.{signed_below}
use Rattle.tk_picture.proofs.page.cities.put_signed.Goals as goal

pub returns-then-number-lt0 : goal.returns-then-number-lt0
returns-then-number-lt0 g c =
    let kept : to_z w64 (of_z w64 c.args.number) ≡ c.args.number = to_z-of_z w64 c.args.number (search rules) in
    let below = subst (λ (z : ℤ). int_lt z (pos 0) ≡ true) kept c.if-number-lt0.true in
    let digits = c.unsigned_abs.ensures.value ∙ ap unsigned_abs kept in
    subst (Puts _ _ _) (ap (λ n. codes "-" ++ decimal n) digits ∙ signed_below c.args.number below)
    (Puts-then c.put.ensures c.put_number.ensures)
