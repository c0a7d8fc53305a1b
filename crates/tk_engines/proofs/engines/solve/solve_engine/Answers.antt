use Rattle.tk_engines.specs.Engine.{BeforeSecond, UnlessWrite}
use Rattle.tk_engines.specs.Solve.{AreUntouched, BeforeSearch, WritesFiles, files_with, misfit_of, search_task}
use Rattle.tk_engines.proofs.EngineEnds.{ends_as, failed_as, if_unwritten}
use Rattle.tk_engines.proofs.engines.solve.solve_engine.Goals as goal

pub returns : goal.returns
returns g c =
    let written = c.write_files in
    record {
      ends = ends_as (search_task (misfit_of c.args.params.now) c.args.params.now.search _)
          (files_with c.args.params.now.ignored) _ _
          (WritesFiles g.F.Sink g.W.Sink c.args.file.now written.new.file c.args.out.now written.new.out)
          c.in_ok-outcome.outcome c.in_ok-outcome.ensures.ends written.result
          (rw c.ignored.ensures.value at written.ensures.text) c.end_of.result c.end_of.ensures;
      quiet = if_unwritten (UnlessWrite
          (AreUntouched g.F.Sink g.W.Sink c.args.file.now written.new.file c.args.out.now written.new.out)) (λ f. tt)
          written.result c.end_of.result c.end_of.ensures;
      failed = failed_as _ written.result c.end_of.result c.end_of.ensures written.ensures.failed;
      unread = if_unwritten (BeforeSecond _) (λ f. tt) written.result c.end_of.result c.end_of.ensures;
      unwatched = if_unwritten (BeforeSearch _) (λ f. tt) written.result c.end_of.result c.end_of.ensures;
    }
