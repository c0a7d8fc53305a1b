-- The trials of a run, and what an observer was shown of several runs.
use Rattle.std.proofs.Common.{◌≡◌, ℕ, ℤ, ◌+◌, pos, Bool, List, [], ◌∷◌, ◌++◌, Option, sym, ap, ◌∙◌, subst, append_assoc}
use Rattle.std.proofs.lemmas.List.{append-nil}
use Rattle.std.proofs.lemmas.Grind.{flat_map-append}
use Rattle.rand_core.specs.Stream.{Stream}
use Rattle.tk_tour.specs.Tour.{tour_length}
use Rattle.tk_ring_search.specs.Searching.{RingSearching, RingRun, begin, trial}
use Rattle.tk_route_search.specs.Events.{Event, Tried}
use Rattle.tk_route_search.specs.Runs.{Run, Trials, descended, tried, shown_of}
use Rattle.tk_route_search.specs.Tasks.{RouteTask}
use Rattle.tk_route_search.specs.Watching.{AreShown, IsReported, WereShown, nothing, next, trial_event}

-- trials that are shown are trials of a search
pub run_of : {task : RouteTask} {j : ℕ} {begun : RingSearching} {words : Stream} {t : ℕ} {shown : List Event}
    {ended : RingSearching} {rest : Stream} →
    Trials task j begun words t shown ended rest → RingRun begun words t ended rest
run_of (descended better routes) = begin
run_of (tried better before step routes) = trial (run_of before) step

-- one list after another
pub shown_both : {W : Type 0} {shows : W → Event → W → Type 0} {old mid : W} {before : List Event} →
    WereShown shows old mid before →
    {new : W} {shown : List Event} → WereShown shows mid new shown → WereShown shows old new (before ++ shown)
shown_both {W} {shows} {old} {mid} {before} first nothing =
    subst (WereShown shows old mid) (sym (append-nil before)) first
shown_both {W} {shows} {old} {mid} {before} first {new} (next {shown} {event} rest is) =
    subst (WereShown shows old new) (append_assoc before shown (event ∷ [])) (next (shown_both first rest) is)

-- what is shown of one more run
pub shown_of_more : (runs : List Run) (run : Run) → shown_of (runs ++ run ∷ []) ≡ shown_of runs ++ run.shown
shown_of_more runs run = flat_map-append (λ (r : Run). r.shown) runs (run ∷ [])
    ∙ ap (λ v. shown_of runs ++ v) (append-nil run.shown)

-- the event of trial t that an observer was shown, by the costs as the code has them
pub shown_trial : {W : Type 0} {shows : W → Event → W → Type 0} {old new : W} {k : ℕ} {x y : ℤ} {best : List ℕ}
    {b : Bool}
    (task : RouteTask) (j t : ℕ) (search : RingSearching) (is_new : Bool) (cost : ℤ) →
    IsReported shows k (record {
      run = j + 1;
      runs = task.runs;
      trial = t;
      trials = task.trials;
      cost = x;
      best = y;
    }) best b old new →
    b ≡ is_new → x ≡ cost → y ≡ pos (tour_length search.given.distance search.best) → best ≡ search.best →
    (better : Option (List (List ℕ)))
    × (AreShown is_new k search.best better × shows old (trial_event task j t cost search better) new)
shown_trial {shows = shows} {old = old} {new = new} {k = k} {y = y} {best = best} task j t search is_new cost reported
    flag
    costs bests same =
    let shortest : ℤ = pos (tour_length search.given.distance search.best) in
    let event : ℤ → ℤ → Event = λ v w.
    Tried (record {
      run = j + 1;
      runs = task.runs;
      trial = t;
      trials = task.trials;
      cost = v;
      best = w;
    }) reported.better in
    let routes : AreShown is_new k search.best reported.better =
    subst (λ v. AreShown is_new k v reported.better) same (subst (λ v. AreShown v k best reported.better) flag
    reported.routes) in (
      reported.better,
      (
        routes,
        subst (λ w. shows old (event cost w) new) bests (subst (λ v. shows old (event v y) new) costs reported.shown),
      ),
    )
