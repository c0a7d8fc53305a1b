-- The events of a search for routes, which an observer is shown.
use Rattle.std.specs.Prelude.{ℕ, Bool, List, Option}
use Rattle.tk_route_search.specs.declared.outcome.RouteRun.{RouteRun}
use Rattle.tk_route_search.specs.declared.watch.RouteProgress.{RouteProgress}

pub data Event : Type 0 where
  -- the name of the problem, before the first run
  Begun : (name : List ℕ) → Event
  -- the first descent of a run, or a trial, and the best routes of the run up to then if it found them
  Tried : (progress : RouteProgress) (better : Option (List (List ℕ))) → Event
  -- a run that has ended, counted from 1, and its report
  Ended : (run : ℕ) (report : RouteRun) → Event
  -- its answer to the question whether the search goes on
  Asked : (goes_on : Bool) → Event
