use Rattle.std.proofs.Common.{refl, sym, ◌∙◌}
use Rattle.tk_problem_text.proofs.header_values.is_coordinate_type.Goals as goal

pub returns-then-is : goal.returns-then-is
returns-then-is c = λ v h. rw (sym (c.is.ensures v h) ∙ c.if-is.true) refl

pub returns : goal.returns
returns c = λ v h. rw (sym (c.is.ensures v h) ∙ c.if-is.false) (c.is-2.ensures v h)
