use Rattle.std.proofs.Common.{◌≡◌, [], None, false, refl, arith}
use Rattle.tk_words.proofs.ReportedFaults.{where_unread}
use Rattle.tk_words.specs.Lex.{lines}
use Rattle.tk_lines.specs.Pieces.{decided_by, judge, cut}
use Rattle.tk_problem_text.specs.Placed.{placed_decided, placed_texts}
use Rattle.tk_problem_text.proofs.placed_text.read_placed_problem.Goals as goal

wanted : placed_decided false [] ≡ None
unfolding decided_by judge lines cut
wanted = refl

pub returns-in-Err : goal.returns-in-Err
returns-in-Err g c = record {
  ok = tt;
  err = where_unread placed_texts (g.R.Source.left c.args.source.now)
      (record { undecided = wanted; within = omega arith });
  some_text = tt;
  some_fault = tt;
  intact = λ _. refl;
}
