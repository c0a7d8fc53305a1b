use Rattle.std.proofs.Common.{refl, rules}
use Rattle.tk_problem_text.specs.ProblemOf.{problem_is}
use Rattle.tk_engines.proofs.ProblemTables.{IsNearOf-table}
use Rattle.tk_engines.proofs.engines.near.lists_of.Goals as goal

pub returns-in-Ok : goal.returns-in-Ok
returns-in-Ok c = record {
  problem = problem_is c.args.problem.now;
  second = tt;
  text = tt;
  read = record { is_problem = refl; fits = refl; is_second = tt };
  together = refl;
  gives = IsNearOf-table c.of.result c.args.problem.now c.args.k c.min.result c.in-Ok.near c.of.ensures.size
      c.of.ensures.distances (search rules) c.in-Ok.ensures;
  written = tt;
}
