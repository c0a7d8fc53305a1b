use Rattle.std.proofs.Common.{refl, sym, ◌∙◌}
use Rattle.tk_problem_text.proofs.header_values.weight_format_of.Goals as goal

pub returns-in-Some : goal.returns-in-Some
returns-in-Some c =
    λ v h. rw (sym (c.is.ensures v h) ∙ c.if-is.false, sym (c.format_of.ensures v h) ∙ c.in-Some.is) refl

pub returns-in-None : goal.returns-in-None
returns-in-None c =
    λ v h. rw (sym (c.is.ensures v h) ∙ c.if-is.false, sym (c.format_of.ensures v h) ∙ c.in-None.is) refl
