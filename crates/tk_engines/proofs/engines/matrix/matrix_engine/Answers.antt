use Rattle.std.proofs.Common.{ap, refl, subst}
use Rattle.tk_problem_text.specs.ProblemOf.{problem_is}
use Rattle.tk_writers.specs.Puts.{Writes}
use Rattle.tk_engines.specs.MatrixOf.{IsReadAs, by_distances, matrix_of, matrix_task}
use Rattle.tk_engines.specs.Engine.{UnlessWrite}
use Rattle.tk_engines.proofs.EngineEnds.{ended, failed_as, if_unwritten}
use Rattle.tk_engines.proofs.engines.matrix.matrix_engine.Goals as goal

pub returns : goal.returns
returns g c =
    let found = c.in_ok-problem.ensures.ends in
    let written = c.write_matrix_of in
    let text = matrix_of (problem_is c.in_ok-problem.problem) c.args.format in
    record {
      ends = ended (matrix_task c.args.format) _ _ (Writes g.W.Sink c.args.out.now written.new.out) text
          (λ Written is. record {
            problem = found.problem;
            second = tt;
            text = text;
            read = record { is_problem = found.read.is_problem; fits = found.read.fits; is_second = tt };
            together = refl;
            gives = record {
              is = ap (λ p. matrix_of p c.args.format) found.gives.is;
              read_back = subst (λ p. IsReadAs text (by_distances p)) found.gives.is
                  (written.ensures.read_back found.gives.named);
            };
            written = is;
          }) written.result written.ensures.text c.end_of.result c.end_of.ensures;
      quiet = if_unwritten (UnlessWrite _) (λ f. tt) written.result c.end_of.result c.end_of.ensures;
      failed = failed_as _ written.result c.end_of.result c.end_of.ensures written.ensures.failed;
    }
