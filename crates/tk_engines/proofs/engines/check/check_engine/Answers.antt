use Rattle.tk_outcomes.specs.TourOutcomes.{verdict_in}
use Rattle.tk_engines.specs.Check.{tour_outcome_task}
use Rattle.tk_outcomes.specs.Lines.TourLine.{outcome_line}
use Rattle.tk_engines.proofs.EngineEnds.{given_as}
use Rattle.tk_engines.proofs.engines.check.check_engine.Goals as goal

pub returns-in-Err-clause-ends : goal.returns-in-Err-clause-ends
returns-in-Err-clause-ends g c = (
  verdict_in c.in_ok-outcome.outcome,
  given_as tour_outcome_task verdict_in outcome_line _ _ _ c.in_ok-outcome.outcome c.in_ok-outcome.ensures.ends
      (rw c.in-Err.is at c.write_tour_outcome.ensures.text),
)
