use Rattle.std.proofs.Common.{◌≡◌, IfOk, Some, None, ℕ, subst, sym, ◌∙◌}
use Rattle.tk_lines.specs.Pieces.{first_at}
use Rattle.tk_problem_text.proofs.KeptHeaders.{keeps_fresh}
use Rattle.tk_problem_text.proofs.headers.keep.Goals as goal

pub returns-clause-ok : goal.returns-clause-ok
returns-clause-ok g c = λ word f tests ps v n same h says.
    let said = subst (λ r. IfOk r (λ a. (f v ≡ Some a) × ((m : ℕ) → first_at m tests ≡ None)))
    c.in_ok-said.was says.ok in
    let fresh =
    keeps_fresh word f c.args.kept.now c.in_ok-said.field-0 ps v n (sym c.is_some.ensures ∙ c.if-is_some.false)
    same h said.0 in
    (fresh.0, rw fresh.1 (said.1 n))
