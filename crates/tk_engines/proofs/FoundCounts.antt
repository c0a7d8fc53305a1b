-- How many runs and routes an outcome has at most.
use Rattle.std.proofs.Common.{ℕ, ◌≤◌, List, [], ◌∷◌, length, length-append, arith, ◌∙◌, ap}
use Rattle.std.proofs.Common.{Result, Ok, Err, IfOk}
use Rattle.std.specs.List.{All, concat}
use Rattle.std.proofs.lemmas.List.{length-map}
use Rattle.std.proofs.lemmas.List.Elements.{All-tail}
use Rattle.tk_solve.specs.Runs.{report_of}
use Rattle.tk_solve.specs.Events.{Event, Asked}
use Rattle.tk_solve.proofs.Endings.{ends_within}
use Rattle.tk_solve.specs.SolvedTours.{IsSolved}
use Rattle.tk_solve.specs.Starts.{TourTask}
use Rattle.tk_solve.specs.declared.tour.SolvedTour.{SolvedTour}

-- no more reports than runs
pub IfOk-count : {E : Type 0} (r : Result SolvedTour E) (task : TourTask) (Watched : List Event → Type 0) (most : ℕ) →
    task.runs ≤ most → IfOk r (IsSolved task Watched) → IfOk r (λ s. length s.runs.items ≤ most)
IfOk-count (Ok s) task Watched most few h =
    omega (arith, few, ends_within Asked h.ends, ap length h.reports ∙ length-map h.runs (report_of task.distance))
IfOk-count (Err e) task Watched most few h = tt

-- no more filled lists than entries
pub count_filled : (routes : List (List ℕ)) → All (λ route. 1 ≤ length route) routes →
    length routes ≤ length (concat routes)
count_filled [] filled = omega arith
count_filled (route ∷ routes) filled =
    omega (
      arith,
      filled 0 [] (omega arith),
      count_filled routes (All-tail (λ r. 1 ≤ length r) route routes filled),
      length-append route (concat routes),
    )
