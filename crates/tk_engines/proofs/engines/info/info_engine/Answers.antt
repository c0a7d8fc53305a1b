use Rattle.tk_writers.specs.Puts.{Writes}
use Rattle.tk_engines.specs.Info.{info_outcome_task}
use Rattle.tk_outcomes.specs.Lines.InfoLines.{info_lines}
use Rattle.tk_engines.specs.Engine.{UnlessWrite}
use Rattle.tk_engines.proofs.EngineEnds.{ends_as, failed_as, if_unwritten}
use Rattle.tk_engines.proofs.engines.info.info_engine.Goals as goal

pub returns : goal.returns
returns g c =
    let written = c.write_info in
    record {
      ends = ends_as info_outcome_task info_lines _ _ (Writes g.W.Sink c.args.out.now written.new.out) c.in_ok-info.info
          c.in_ok-info.ensures.ends written.result written.ensures.text c.end_of.result c.end_of.ensures;
      quiet = if_unwritten (UnlessWrite _) (λ f. tt) written.result c.end_of.result c.end_of.ensures;
      failed = failed_as _ written.result c.end_of.result c.end_of.ensures written.ensures.failed;
    }
