use Rattle.std.proofs.Common.{arith}
use Rattle.tk_problem_text.proofs.SectionTokens.SectionBegins.{ready_weights}
use Rattle.tk_problem_text.proofs.sections.begin.begin_weights.Goals as goal

pub returns-clause-ok : goal.returns-clause-ok
returns-clause-ok c = λ before has_parts same.
    ready_weights c.args.parts.now before has_parts c.args.size same (omega (arith, c.if-size-gt-TABLE_LIMIT.false))
    c.in-Some.weight_type c.in-Some-weight_format.weight_format c.in-Some-listed.format c.in_ok-new.field-0
    c.in-Some.is c.in-Some-weight_format.is c.in-Some-listed.ensures c.in_ok-new.ensures.ok
