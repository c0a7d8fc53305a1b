-- Laws of runs of trials, which the functions of `src/trials/laws.rt` state.
--     found_in run      the tours that the trials of a run found
--     IsFirstShortest dist tours best      the first of the shortest tours of a list
use Rattle.std.specs.Prelude.{◌≡◌, ℕ, ◌-◌, ◌^◌, ◌<◌, ◌≤◌, List, [], ◌∷◌, ◌++◌, length}
use Rattle.std.specs.List.{All}
use Rattle.rand_core.specs.Stream.{Stream}
use Rattle.tk_tour.specs.Tour.{IsTour, tour_length}
use Rattle.tk_search.specs.Searching.{Searching, IsBegun, IsBoundedSearch, NextTrial, first, kicked, none, SearchRun}
use Rattle.tk_search.specs.Searching.{begin, trial}
use Rattle.tk_search.specs.Totals.{capped}
use Rattle.tk_search.specs.declared.trials.totals.TrialReport.{TrialReport}

-- the tour that a trial found, or no tour if it did nothing
abbrev pub found_by : {old new : Searching} {words rest : Stream} {report : TrialReport} →
    NextTrial old words new rest report → List (List ℕ)
found_by (first untried is_first same) = is_first.trial.found ∷ []
found_by (kicked tried many is_kicked) = is_kicked.trial.found ∷ []
found_by (none tried few is_none stays same) = []

-- the tours that the trials of a run found, in order
abbrev pub found_in : {begun : Searching} {words : Stream} {t : ℕ} {search : Searching} {rest : Stream} →
    SearchRun begun words t search rest → List (List ℕ)
found_in begin = []
found_in (trial run next) = found_in run ++ found_by next

-- the first of the shortest tours of a list: those before it are longer, and none after it is shorter
pub record IsFirstShortest (dist : ℕ → ℕ → ℕ) (tours : List (List ℕ)) (best : List ℕ) : Type 0 where
  pub before : List (List ℕ)
  pub behind : List (List ℕ)
  pub stands : tours ≡ before ++ best ∷ behind
  pub longer : All (λ tour. tour_length dist best < tour_length dist tour) before
  pub least : All (λ tour. tour_length dist best ≤ tour_length dist tour) behind

-- the best tour after a run is the first of the shortest among the start and the results, entry for entry
abbrev pub BestIsFirstShortest : Type 0
BestIsFirstShortest =
    (begun search : Searching) (words rest : Stream) (t : ℕ) → (run : SearchRun begun words t search rest) →
    IsFirstShortest begun.distance (begun.best ∷ found_in run) search.best

-- the best tour after a run is not longer than the start
abbrev pub BestIsNoLonger : Type 0
BestIsNoLonger =
    (begun search : Searching) (words rest : Stream) (t : ℕ) → SearchRun begun words t search rest →
    tour_length begun.distance search.best ≤ tour_length begun.distance begun.best

-- if the start is a tour of the cities 1 to n, so is the best tour after a run
abbrev pub BestIsTour : Type 0
BestIsTour =
    (begun search : Searching) (words rest : Stream) (t : ℕ) → SearchRun begun words t search rest →
    IsTour (length begun.best) begun.best → IsTour (length begun.best) search.best

-- the work of a run from a search before its first trial is bounded
abbrev pub WorkIsBounded : Type 0
WorkIsBounded =
    (begun search : Searching) (words rest : Stream) (t : ℕ) → SearchRun begun words t search rest →
    IsBegun begun begun.distance begun.near begun.rules begun.best → IsBoundedSearch search

-- on fewer than 8 cities, any positive number of trials from the first on is one trial, which draws no word
abbrev pub FewCitiesMakeOneTrial : Type 0
FewCitiesMakeOneTrial =
    (begun search : Searching) (words rest : Stream) (t : ℕ) → SearchRun begun words t search rest →
    begun.totals.trials ≡ 0 → length begun.best < 8 → 1 ≤ t →
    SearchRun begun words 1 search words × (search.totals.trials ≡ 1) × (rest ≡ words)

-- on 8 cities or more, each trial is counted, up to the maximum of the counter
abbrev pub EachTrialCounts : Type 0
EachTrialCounts =
    (begun search : Searching) (words rest : Stream) (t : ℕ) → SearchRun begun words t search rest →
    begun.totals.trials ≡ 0 → 8 ≤ length begun.best → search.totals.trials ≡ capped t

-- two reports agree on whether the trial began with a kick, and on these counts
pub record AreAlike (r s : TrialReport) : Type 0 where
  pub kicked : r.kicked ≡ s.kicked
  pub passes : r.passes ≡ s.passes
  pub moves : r.descent.moves ≡ s.descent.moves
  pub tests : r.descent.tests ≡ s.descent.tests
  pub swaps : r.descent.swaps ≡ s.descent.swaps

-- two reports of one trial agree, as long as no total has reached its maximum
abbrev pub ReportsAgree : Type 0
ReportsAgree =
    (old new : Searching) (words rest : Stream) (r s : TrialReport) → NextTrial old words new rest r →
    NextTrial old words new rest s →
    new.totals.moves < 2 ^ 128 - 1 → new.totals.tests < 2 ^ 128 - 1 → new.totals.passes < 2 ^ 128 - 1 → AreAlike r s
