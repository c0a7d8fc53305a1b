-- What follows for the tour and the reports of a search, whatever its runs were.
use Rattle.std.proofs.Common.{◌≡◌, ℕ, pos, ◌≤◌, List, [], ◌∷◌, length, Result, Ok, Err, IfOk, map, refl, sym, ap, ◌∙◌}
use Rattle.std.proofs.Common.{subst, arith}
use Rattle.std.specs.Prelude.{◌≤ℤ◌, All}
use Rattle.std.proofs.lemmas.Int.{ints}
use Rattle.std.proofs.lemmas.List.{get_or-map, length-map}
use Rattle.std.proofs.lemmas.List.Elements.{All-append, All-cons, All-map, All-nil}
use Rattle.tk_near.specs.Near.{NearLists}
use Rattle.tk_tour.specs.Printed.{IsPrintedForm}
use Rattle.tk_tour.specs.Tour.{IsTour, tour_length}
use Rattle.tk_descent.proofs.MovesOnTours.Length.{length-cycle}
use Rattle.tk_search.specs.Searching.{IsBegun, IsBoundedSearch}
use Rattle.tk_search.specs.SearchLaws.{IsFirstShortest}
use Rattle.tk_search.specs.Totals.{IsBounded}
use Rattle.tk_search.proofs.SearchTrials.BoundedRuns.{bounded_run}
use Rattle.tk_search.proofs.SearchTrials.Runs.{given_run}
use Rattle.tk_solve.specs.Events.{Event, Asked}
use Rattle.tk_solve.specs.Outcomes.{AreMade}
use Rattle.tk_solve.specs.Runs.{Run, IsRun, AreRuns, none, more, best_tours, report_of, run_length}
use Rattle.tk_solve.specs.SolvedTours.{IsBoundedReport, IsSolved, IsSound}
use Rattle.tk_solve.specs.Starts.{TourTask, AreCandidates}
use Rattle.tk_solve.specs.declared.outcome.Outcome.{Outcome}
use Rattle.tk_solve.specs.declared.outcome.RunReport.{RunReport}
use Rattle.tk_solve.specs.declared.tour.SolvedTour.{SolvedTour}
use Rattle.tk_solve.proofs.Endings.{ends_some}
use Rattle.tk_solve.proofs.RunsSoFar.{ended_tour}
use Rattle.tk_solve.proofs.Watched.{run_of}

-- the work of a run is bounded
run_bounded : (task : TourTask) (near : NearLists) (j : ℕ) (run : Run) → IsRun task near j run →
    IsBounded task.size near.width task.rules (run_length task.distance run) run.totals
run_bounded task near j run h =
    let begun = h.searched.begun in
    let begins = h.searched.begins in
    let start : begun.totals.start ≡ pos (tour_length begun.distance begun.best) =
    subst (λ d. begun.totals.start ≡ pos (tour_length d begun.best)) (sym begins.table.0)
    (subst (λ v. begun.totals.start ≡ pos (tour_length task.distance v)) (sym begins.best) begins.length_is) in
    let own : IsBegun begun begun.distance begun.near begun.rules begun.best =
    record {
      table = (refl, refl, refl);
      best = refl;
      trials = begins.trials;
      length_is = start;
      none = begins.none;
    } in
    let given = given_run (run_of h.searched.trials) in
    let size : length h.ended.best ≡ task.size =
    (ended_tour task near j run.start h.tried h.ended h.searched h.tour).0 in
    let bound : IsBoundedSearch h.ended = bounded_run (run_of h.searched.trials) own in
    let sized =
    subst (λ n. IsBounded n h.ended.near.width h.ended.rules (tour_length h.ended.distance h.ended.best)
    h.ended.totals) size bound in
    let listed =
    subst (λ (v : NearLists). IsBounded task.size v.width h.ended.rules (tour_length h.ended.distance h.ended.best)
    h.ended.totals) (given.near ∙ begins.table.1) sized in
    let ruled = subst (λ v. IsBounded task.size near.width v (tour_length h.ended.distance h.ended.best) h.ended.totals)
    (given.rules ∙ begins.table.2) listed in
    let measured = subst (λ d. IsBounded task.size near.width task.rules (tour_length d h.ended.best) h.ended.totals)
    (given.distance ∙ begins.table.0) ruled in
    let best = subst (λ v. IsBounded task.size near.width task.rules (tour_length task.distance v) h.ended.totals)
    (sym h.best) measured in
    subst (IsBounded task.size near.width task.rules (run_length task.distance run)) (sym h.totals) best

-- each of the runs is one
each_run : (task : TourTask) (near : NearLists) → {runs : List Run} → AreRuns task near runs →
    All (λ run. (j : ℕ) × IsRun task near j run) runs
each_run task near none = All-nil _
each_run task near (more {runs} {run} before is) =
    All-append (λ v. (j : ℕ) × IsRun task near j v) runs (run ∷ []) (each_run task near before)
    (All-cons (λ v. (j : ℕ) × IsRun task near j v) run [] (_, is) (All-nil _))

-- the first of the shortest tours is as short as each
least_of : (distance : ℕ → ℕ → ℕ) (runs : List Run) (winner : List ℕ) →
    IsFirstShortest distance (best_tours runs) winner →
    All (λ run. tour_length distance winner ≤ run_length distance run) runs
least_of distance runs winner f =
    let Least : List ℕ → Type 0 = λ v. tour_length distance winner ≤ tour_length distance v in
    let front : All Least f.before = λ k d lt. omega (arith, f.longer k d lt) in
    let own : Least winner = omega arith in
    let all : All Least (best_tours runs) =
    subst (All Least) (sym f.stands)
    (All-append Least f.before (winner ∷ f.behind) front (All-cons Least winner f.behind own f.least)) in
    λ k d lt. subst Least (get_or-map (λ (v : Run). v.best) runs k d d.best lt)
    (all k d.best (omega (arith, lt, length-map runs (λ (v : Run). v.best))))

-- a tour of the cities whose length is the winner's
pub sound_of : (task : TourTask) (near : NearLists) (runs : List Run) (winner : List ℕ) (solved : SolvedTour) →
    AreCandidates task near → AreRuns task near runs →
    IsFirstShortest task.distance (best_tours runs) winner → solved.runs.items ≡ map (report_of task.distance) runs →
    IsTour task.size solved.cities.items → solved.length ≡ pos (tour_length task.distance winner) → IsSound task solved
sound_of task near runs winner solved candidates are first reports tour length_is =
    let least = least_of task.distance runs winner first in
    let each = each_run task near are in
    let shown : (P : RunReport → Type 0) → All (λ run. P (report_of task.distance run)) runs → All P solved.runs.items =
    λ P h. subst (All P) (sym reports) (All-map P (report_of task.distance) runs h) in
    let bounded : (run : Run) (j : ℕ) → IsRun task near j run → IsBoundedReport task (report_of task.distance run) =
    λ run j is. subst (λ w. IsBounded task.size w task.rules (run_length task.distance run) run.totals) candidates.width
    (run_bounded task near j run is) in
    record {
      tour = tour;
      least = shown (λ r. solved.length ≤ℤ r.best) (λ k d lt. omega (arith, ints, length_is, least k d lt));
      starts = shown (λ r. solved.length ≤ℤ r.totals.start) (λ k d lt. let is = each k d lt in
          omega (arith, ints, length_is, least k d lt, (run_bounded task near is.0 _ is.1).better));
      bounded = shown (IsBoundedReport task) (λ k d lt. let is = each k d lt in bounded _ is.0 is.1);
    }

-- the same of an answer that may be out of memory
pub IfOk-sound : {E : Type 0} (r : Result SolvedTour E) (task : TourTask) (near : NearLists) (runs : List Run)
    (winner : List ℕ) (outcome : Outcome) →
    ((a b : ℕ) → task.distance a b ≡ task.distance b a) → AreCandidates task near → AreRuns task near runs →
    IsFirstShortest task.distance (best_tours runs) winner →
    outcome.reports.items ≡ map (report_of task.distance) runs → IfOk r (λ s. s.runs ≡ outcome.reports) →
    IfOk r (λ s. IsPrintedForm winner s.cities.items) →
    IfOk r (λ s. s.length ≡ pos (tour_length task.distance s.cities.items)) →
    IfOk r (λ s. IsTour task.size s.cities.items) → IfOk r (IsSound task)
IfOk-sound (Ok s) task near runs winner outcome symmetric candidates are first reported shown printed length_is tour =
    sound_of task near runs winner s candidates are first (ap (λ v. v.items) shown ∙ reported) tour (length_is
    ∙ ap pos (sym (length-cycle task.distance symmetric winner s.cities.items printed.cycle)))
IfOk-sound (Err e) task near runs winner outcome symmetric candidates are first reported shown printed length_is tour =
    tt

-- the result of the runs, likewise
pub IfOk-solved : {E : Type 0} (r : Result SolvedTour E) (task : TourTask) (near : NearLists)
    (Watched : List Event → Type 0) (outcome : Outcome) → AreCandidates task near → AreMade task near Watched outcome →
    1 ≤ task.runs → IfOk r (λ s. s.runs ≡ outcome.reports) →
    IfOk r (λ s. IsPrintedForm outcome.cities.items s.cities.items) →
    IfOk r (λ s. s.length ≡ pos (tour_length task.distance s.cities.items)) → IfOk r (IsSolved task Watched)
IfOk-solved (Ok s) task near Watched outcome candidates made some shown printed length_is = record {
  near = near;
  candidates = candidates;
  runs = made.runs;
  are = made.kept.are;
  stop = made.stop;
  ends = made.ends;
  reports = ap (λ v. v.items) shown ∙ made.kept.reports_are;
  winner = outcome.cities.items;
  first = made.kept.first (ends_some Asked made.ends some);
  printed = printed;
  length_is = length_is;
  watched = made.watched;
}
IfOk-solved (Err e) task near Watched outcome candidates made some shown printed length_is = tt
