use Rattle.std.proofs.Common.{◌≡◌, [], None, false, refl, arith}
use Rattle.std.proofs.lemmas.Result.{IfOk-weaker}
use Rattle.tk_words.proofs.ReportedFaults.{where_unread}
use Rattle.tk_words.specs.Lex.{lines}
use Rattle.tk_lines.specs.Pieces.{decided_by, judge, cut}
use Rattle.tk_problem_text.specs.ProblemOf.{problem_is}
use Rattle.tk_problem_text.specs.Problem.{problem_decided, problem_texts}
use Rattle.tk_problem_text.proofs.ReadNames.{name_answered}
use Rattle.tk_problem_text.proofs.problem_text.read_problem.Goals as goal

pub returns-in-Ok-clause-named : goal.returns-in-Ok-clause-named
returns-in-Ok-clause-named g c =
    IfOk-weaker c.read_text.result _ _ (λ problem said. name_answered said.0 (problem_is problem) said.1)
    c.read_text.ensures.reads.some_text

wanted : problem_decided false [] ≡ None
unfolding decided_by judge lines cut
wanted = refl

pub returns-in-Err-clause-reads : goal.returns-in-Err-clause-reads
returns-in-Err-clause-reads g c = record {
  ok = tt;
  err = where_unread problem_texts (g.R.Source.left c.args.source.now)
      (record { undecided = wanted; within = omega arith });
  some_text = tt;
  some_fault = tt;
  intact = λ _. refl;
}
