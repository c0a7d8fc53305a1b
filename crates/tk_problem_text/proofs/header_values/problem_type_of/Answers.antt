use Rattle.std.proofs.Common.{refl, sym, ◌∙◌}
use Rattle.tk_problem_text.proofs.header_values.problem_type_of.Goals as goal

pub returns-then-is-2 : goal.returns-then-is-2
returns-then-is-2 c = λ v h. rw (sym (c.is.ensures v h) ∙ c.if-is.false, sym (c.is-2.ensures v h) ∙ c.if-is-2.true) refl

pub returns : goal.returns
returns c = λ v h. rw (sym (c.is.ensures v h) ∙ c.if-is.false, sym (c.is-2.ensures v h) ∙ c.if-is-2.false) refl
