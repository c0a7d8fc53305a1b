use Rattle.std.proofs.Common.{refl}
use Rattle.tk_engines.specs.Engine.{WritesNothing}
use Rattle.tk_engines.proofs.EngineEnds.{problem_read}
use Rattle.tk_engines.proofs.TextsRead.{is_read, is_refused}
use Rattle.tk_engines.proofs.engines.between.between_outcome.Goals as goal

pub returns-in-Ok-clause-ends : goal.returns-in-Ok-clause-ends
returns-in-Ok-clause-ends g c =
    problem_read _ _ _ WritesNothing _ (is_read c.in-Ok.ensures.reads)
    c.search_from.result c.search_from.ensures.ends

pub returns-in-Err-clause-ends : goal.returns-in-Err-clause-ends
returns-in-Err-clause-ends g c = (c.in-Err.fault, refl, is_refused c.in-Err.ensures.reads)
