use Rattle.std.proofs.Common.{refl}
use Rattle.tk_engines.specs.Engine.{WritesNothing}
use Rattle.tk_engines.proofs.EngineEnds.{problem_read, second_reached}
use Rattle.tk_engines.proofs.TextsRead.{is_read}
use Rattle.tk_engines.proofs.engines.check.tour_outcome.Goals as goal

pub returns-in-Ok-clause-ends : goal.returns-in-Ok-clause-ends
returns-in-Ok-clause-ends g c =
    problem_read _ _ _ WritesNothing _ (is_read c.in-Ok.ensures.reads)
    c.tour_outcome_of.result c.tour_outcome_of.ensures.ends

pub returns-in-Ok-clause-unread : goal.returns-in-Ok-clause-unread
returns-in-Ok-clause-unread g c =
    second_reached _ _ _ WritesNothing _ refl c.tour_outcome_of.result c.tour_outcome_of.ensures.ends
