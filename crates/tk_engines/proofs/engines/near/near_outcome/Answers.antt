use Rattle.tk_engines.specs.Engine.{WritesNothing}
use Rattle.tk_engines.proofs.EngineEnds.{problem_read}
use Rattle.tk_engines.proofs.TextsRead.{is_read}
use Rattle.tk_engines.proofs.engines.near.near_outcome.Goals as goal

pub returns-in-Ok : goal.returns-in-Ok
returns-in-Ok g c = record {
  ends = problem_read _ _ _ WritesNothing _ (is_read c.in-Ok.ensures.reads) c.lists_of.result c.lists_of.ensures;
}
