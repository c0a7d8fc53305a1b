use Rattle.std.proofs.Common.{refl, sym, ap, ◌∙◌, arith, Some, rules, SFits, w64, ℤ}
use Rattle.std.proofs.lemmas.Int.{to_z-of_z}
use Rattle.tk_lists.proofs.SolutionLines.{keeps_customer}
use Rattle.tk_lists.proofs.solution_handler.SolutionHandler.take_customer.Goals as goal

pub returns-in-Ok-clause-ok : goal.returns-in-Ok-clause-ok
returns-in-Ok-clause-ok c = λ before toks n k may.
    let f : SFits w64 c.in-Some.number = search rules in
    let limits = c.in-Some-limited.ensures.some in
    let is = sym c.integer.ensures ∙ c.in-Some.is
    ∙ ap (λ (z : ℤ). Some z) (sym (to_z-of_z w64 c.in-Some.number f) ∙ limits.0) in
    keeps_customer c.args.self.now _ before toks n c.in-Some-limited.customer c.args.bytes.now c.requires is limits.2
    (omega (arith, c.if-self-ge-ENTRY_LIMIT.false)) refl c.in-Ok.ensures.items refl refl refl k may
