-- The events of a search, which an observer is shown.
use Rattle.std.specs.Prelude.{ℕ, Bool, List}
use Rattle.tk_solve.specs.declared.outcome.RunReport.{RunReport}
use Rattle.tk_solve.specs.declared.watch.Progress.{Progress}

pub data Event : Type 0 where
  -- the name of the problem, before the first run
  Begun : (name : List ℕ) → Event
  -- a trial, and the best tour of its run up to then
  Tried : (progress : Progress) (best : List ℕ) → Event
  -- a run that has ended, counted from 1, and its report
  Ended : (run : ℕ) (report : RunReport) → Event
  -- its answer to the question whether the search goes on
  Asked : (goes_on : Bool) → Event
