use Rattle.std.proofs.Common.{refl}
use Rattle.tk_problem_text.specs.ProblemOf.{problem_is}
use Rattle.tk_engines.proofs.TourLengths.{outcome_right}
use Rattle.tk_engines.proofs.TextsRead.{is_read, is_refused}
use Rattle.tk_engines.proofs.engines.check.tour_outcome_of.Goals as goal

pub returns-in-Ok-check : goal.returns-in-Ok-check
returns-in-Ok-check g c = record {
  ends = record {
    problem = problem_is c.args.problem.now;
    second = c.in-Ok.tour.cities.items;
    text = tt;
    read = record { is_problem = refl; fits = refl; is_second = is_read c.in-Ok.ensures.reads };
    together = refl;
    gives = rw c.of.ensures (outcome_right c.args.problem.now _ _ c.in-Ok-check.verdict c.as_slice-cities.ensures.value
        c.in-Ok-check.ensures);
    written = tt;
  };
}

pub returns-in-Err : goal.returns-in-Err
returns-in-Err g c = record {
  ends = record {
    problem = problem_is c.args.problem.now;
    is_problem = refl;
    fits = refl;
    refused = (c.in-Err.fault, refl, is_refused c.in-Err.ensures.reads);
  };
}
