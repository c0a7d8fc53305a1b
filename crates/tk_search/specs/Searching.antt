-- Searches by trials.
--     Searching      what callers see of a search
--     IsBegun      a search before its first trial
--     NextTrial      its next trial: IsFirstTrial, IsKickedTrial or IsNoTrial
--     SearchRun      t trials one after another
use Rattle.std.specs.Prelude.{◌≡◌, ℕ, ◌+◌, ◌<◌, ◌≤◌, List, [], length, pos, true, false}
use Rattle.rand_core.specs.Stream.{Stream}
use Rattle.tk_near.specs.Near.{NearLists, near_of}
use Rattle.tk_tour.specs.JournalTours.{flips_of, slots_of}
use Rattle.tk_tour.specs.Tour.{tour_length}
use Rattle.tk_tour.specs.declared.store.TourStore.{Ghosts}
use Rattle.tk_tour.specs.declared.undo.UndoStore as undo
use Rattle.tk_descent.specs.Awake.{one_to}
use Rattle.tk_descent.specs.EdgeCache.{AreTrueOf}
use Rattle.tk_tour.specs.Counters.{saturated}
use Rattle.tk_search.specs.Best.{best_of}
use Rattle.tk_search.specs.Cuts.{kick_swaps}
use Rattle.tk_search.specs.Settled.{IsAtBest}
use Rattle.tk_search.specs.Totals.{AddsTrial, SettlesTrial, AreCountsOf, IsBounded}
use Rattle.tk_search.specs.Trials.{IsTrial, IsBoundedTrial, IsKick, gain_of}
use Rattle.tk_search.specs.declared.trials.descending.SearchRules.{SearchRules}
use Rattle.tk_search.specs.declared.trials.state.State.{State}
use Rattle.tk_search.specs.declared.trials.totals.Totals.{Totals}
use Rattle.tk_search.specs.declared.trials.totals.TrialReport.{TrialReport}

-- The distances, the near lists and the rules of a search, the best tour so far, the number of flips, and the totals.
-- The flips are not in the totals; the tour counts them.
pub record Searching : Type 0 where
  pub distance : ℕ → ℕ → ℕ
  pub near : NearLists
  pub rules : SearchRules
  pub best : List ℕ
  pub flips : ℕ
  pub totals : Totals

abbrev pub searching : {S : Type 0} → {u : undo.Ghosts S} → {s : Ghosts S} → (ℕ → ℕ → ℕ) → NearLists → SearchRules →
    State S u s → Searching
searching distance near rules state = record {
  distance = distance;
  near = near;
  rules = rules;
  best = best_of state.best;
  flips = flips_of state.tour;
  totals = state.totals;
}

-- the input of a search does not change
pub record SameGiven (old new : Searching) : Type 0 where
  pub distance : new.distance ≡ old.distance
  pub near : new.near ≡ old.near
  pub rules : new.rules ≡ old.rules

-- the bounds on the work of a search
abbrev pub IsBoundedSearch : Searching → Type 0
IsBoundedSearch search = IsBounded (length search.best) search.near.width search.rules
    (tour_length search.distance search.best) search.totals

-- a search before its first trial: the best tour is the start
pub record IsBegun (search : Searching) (distance : ℕ → ℕ → ℕ) (near : NearLists) (rules : SearchRules)
    (start : List ℕ) : Type 0 where
  pub table : (search.distance ≡ distance) × (search.near ≡ near) × (search.rules ≡ rules)
  pub best : search.best ≡ start
  pub trials : search.totals.trials ≡ 0
  pub length_is : search.totals.start ≡ pos (tour_length distance start)
  pub none : (search.totals.better ≡ 0) × (search.totals.moves ≡ 0) × (search.totals.gained ≡ 0)
      × (search.totals.tests ≡ 0) × (search.totals.swaps ≡ 0) × (search.totals.undo_swaps ≡ 0)
      × (search.totals.copied ≡ 0) × (search.totals.passes ≡ 0) × (search.flips ≡ 0)

-- the first trial: a descent from the best tour, which is the start, with all cities awake
pub record IsFirstTrial (old new : Searching) (report : TrialReport) : Type 0 where
  pub given : SameGiven old new
  pub trial : IsTrial old.distance (near_of old.near) old.rules old.best
      (one_to (length old.best)) old.best new.best report
  pub kicked : report.kicked ≡ false
  pub adds : AddsTrial old.totals new.totals report (gain_of report)
  pub flips : new.flips ≡ saturated (old.flips + trial.flips)
  pub swaps : new.totals.swaps ≡ old.totals.swaps + report.descent.swaps
  pub settles : SettlesTrial (length old.best) trial.flips trial.swaps old.totals new.totals report
  pub bounded : IsBoundedTrial (length old.best) old.near.width (length old.best) old.rules report

-- A later trial: a descent from a kick of the best tour by four flips. The kick wakes at most 8 cities, unless it wakes
-- all of them.
pub record IsKickedTrial (old : Searching) (words : Stream) (new : Searching) (rest : Stream)
    (report : TrialReport) : Type 0 where
  pub given : SameGiven old new
  pub tour : List ℕ
  pub awake : List ℕ
  pub kick : IsKick old.best words old.rules.sweep [] tour rest awake
  pub trial : IsTrial old.distance (near_of old.near) old.rules tour awake old.best new.best report
  pub kicked : report.kicked ≡ true
  pub adds : AddsTrial old.totals new.totals report (gain_of report)
  pub flips : new.flips ≡ saturated (old.flips + (4 + trial.flips))
  pub swaps : new.totals.swaps
      ≡ saturated (old.totals.swaps + kick_swaps (length old.best) kick.cuts) + report.descent.swaps
  pub settles : SettlesTrial (length old.best) (4 + trial.flips)
      (kick_swaps (length old.best) kick.cuts + trial.swaps) old.totals new.totals report
  pub bounded : IsBoundedTrial (length old.best) old.near.width 8 old.rules report

-- a trial that does nothing: its lengths are that of the best tour, and its counters are 0
pub record IsNoTrial (search : Searching) (report : TrialReport) : Type 0 where
  pub flags : (report.kicked ≡ false) × (report.better ≡ false)
  pub before : report.descent.before ≡ pos (tour_length search.distance search.best)
  pub after : report.descent.after ≡ pos (tour_length search.distance search.best)
  pub counts : (report.passes ≡ 0) × (report.descent.moves ≡ 0) × (report.descent.looks ≡ 0)
      × (report.descent.tests ≡ 0) × (report.descent.swaps ≡ 0)

-- The next trial: the first one, or a kicked one, which draws its cuts from the random stream. On fewer than 8 cities,
-- trials after the first do nothing.
pub data NextTrial (old : Searching) (words : Stream) (new : Searching) (rest : Stream)
    (report : TrialReport) : Type 0 where
  first : old.totals.trials ≡ 0 → IsFirstTrial old new report → rest ≡ words → NextTrial old words new rest report
  kicked : 1 ≤ old.totals.trials → 8 ≤ length old.best → IsKickedTrial old words new rest report →
      NextTrial old words new rest report
  none : 1 ≤ old.totals.trials → length old.best < 8 → IsNoTrial old report → new ≡ old → rest ≡ words →
      NextTrial old words new rest report

-- t trials, from a search and a random stream to the search after them and the rest of the stream
pub data SearchRun (begun : Searching) (words : Stream) : ℕ → Searching → Stream → Type 0 where
  begin : SearchRun begun words 0 begun words
  trial : {t : ℕ} {old new : Searching} {left rest : Stream} {report : TrialReport} → SearchRun begun words t old left →
      NextTrial old left new rest report → SearchRun begun words (t + 1) new rest

-- the invariant between two trials
pub record IsSearching {S : Type 0} {u : undo.Ghosts S} {s : Ghosts S} (size : ℕ) (distance : ℕ → ℕ → ℕ)
    (near : NearLists) (rules : SearchRules) (state : State S u s) : Type 0 where
  pub cities : size ≡ length (best_of state.best)
  pub lists : near.size ≡ length (best_of state.best)
  pub queue : state.waking.size ≡ length (best_of state.best)
  pub asleep : state.waking.queue ≡ []
  pub steps : AreTrueOf distance state.steps
  pub segment : (1 ≤ rules.or_segment) × (rules.or_segment ≤ 3)
  pub at_best : IsAtBest state.tour state.best
  pub slots : slots_of state.tour ≡ length (best_of state.best)
  pub shortest : state.shortest ≡ pos (tour_length distance (best_of state.best))
  pub counts : AreCountsOf state.totals state.tour state.best
  pub untried : state.totals.trials ≡ 0 → state.totals.tests ≡ 0
  pub bounds : IsBounded (length (best_of state.best)) near.width rules
      (tour_length distance (best_of state.best)) state.totals
