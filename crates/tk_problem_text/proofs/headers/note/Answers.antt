use Rattle.std.proofs.Common.{sym, ◌∙◌}
use Rattle.tk_problem_text.proofs.KeptHeaders.{noted}
use Rattle.tk_problem_text.proofs.headers.note.Goals as goal

pub returns-clause-ok : goal.returns-clause-ok
returns-clause-ok c = λ word ps v n same h. (noted word ps v n same, sym h ∙ c.if-came.false)
