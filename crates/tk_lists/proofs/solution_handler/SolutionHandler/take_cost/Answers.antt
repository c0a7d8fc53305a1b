use Rattle.std.proofs.Common.{◌≡◌, refl, sym, ap, false, ◌∙◌, rules, SFits, w64, ℤ, pos}
use Rattle.std.specs.Int.Signed.{lt_z}
use Rattle.std.proofs.lemmas.Int.{to_z-of_z}
use Rattle.tk_lists.proofs.SolutionLines.{keeps_cost}
use Rattle.tk_lists.proofs.solution_handler.SolutionHandler.take_cost.Goals as goal

pub returns-clause-ok : goal.returns-clause-ok
returns-clause-ok c = λ before n k unpriced.
    let f : SFits w64 c.in-Some.number = search rules in
    let same = to_z-of_z w64 c.in-Some.number f in
    let low : lt_z c.in-Some.number (pos 0) ≡ false = ap (λ (z : ℤ). lt_z z (pos 0)) (sym same)
    ∙ c.if-number-lt0.false in
    keeps_cost c.args.self.now _ before n c.args.bytes.now c.in-Some.number c.requires (sym c.integer.ensures
    ∙ c.in-Some.is) low refl refl refl refl same k unpriced
