use Rattle.tk_writers.specs.Puts.{Writes}
use Rattle.tk_engines.specs.NearText.{near_outcome_task, near_text}
use Rattle.tk_engines.specs.Engine.{UnlessWrite}
use Rattle.tk_engines.proofs.EngineEnds.{ends_as, failed_as, if_unwritten}
use Rattle.tk_engines.proofs.engines.near.near_engine.Goals as goal

pub returns : goal.returns
returns g c =
    let written = c.write_near_lists in
    record {
      ends = ends_as (near_outcome_task c.args.k) near_text _ _ (Writes g.W.Sink c.args.out.now written.new.out)
          c.in_ok-near.near c.in_ok-near.ensures.ends written.result written.ensures.text c.end_of.result
          c.end_of.ensures;
      quiet = if_unwritten (UnlessWrite _) (λ f. tt) written.result c.end_of.result c.end_of.ensures;
      failed = failed_as _ written.result c.end_of.result c.end_of.ensures written.ensures.failed;
    }
