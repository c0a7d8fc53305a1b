-- The options of a search for a tour, and the starts of its runs.
--     TourTask      the distances of the cities 1 to `size`, and the options
--     AreCandidates task near      the near lists of the cities
--     IsStart task near j cities      the tour that run j, counted from 0, begins with
--     trials_of task      the number of trials per run
use Rattle.std.specs.Prelude.{◌≡◌, ℕ, ◌+◌, ◌-◌, ◌%◌, List, ◌∷◌, Option, Some, None, MatchOption, flat_map, min}
use Rattle.std.specs.Prelude.{replicate, if◌then◌else◌, nat_lt}
use Rattle.tk_near.specs.Near.{NearLists, AreNearest, near_of}
use Rattle.tk_distance.specs.Tables.{table_size, table_distance}
use Rattle.tk_distance.specs.declared.table.Table.{Table}
use Rattle.tk_tour.specs.Tour.{IsTour}
use Rattle.tk_starts.specs.NearestTour.{IsNearestTour}
use Rattle.tk_starts.specs.PathEnds.{load_of}
use Rattle.tk_starts.specs.SavingsMerges.{AreSavingsLists}
use Rattle.tk_search.specs.declared.trials.descending.SearchRules.{SearchRules}
use Rattle.tk_solve.specs.declared.options.Start.{Start}
use Rattle.tk_solve.specs.declared.options.Start.TheVariants.{Nearest, Savings, Tour}
use Rattle.tk_solve.specs.declared.options.TourOptions.{TourOptions}

-- a nearest-neighbour tour; the savings tour; or a given tour
pub data Begins : Type 0 where
  AtNearest : Begins
  AtSavings : Begins
  At : (cities : List ℕ) → Begins

-- the distances of the cities 1 to `size`, and the options of the search
pub record TourTask : Type 0 where
  pub size : ℕ
  pub distance : ℕ → ℕ → ℕ
  pub start : Begins
  pub runs : ℕ
  pub trials : ℕ
  pub seed : ℕ
  pub candidates : ℕ
  pub rules : SearchRules

abbrev pub begins_of : Start → Begins
begins_of Nearest = AtNearest
begins_of Savings = AtSavings
begins_of (Tour given) = At given.now

-- the task of these options, for cities with these distances
abbrev pub task_over : ℕ → (ℕ → ℕ → ℕ) → TourOptions → TourTask
task_over size distance o =
    record {
      size = size;
      distance = distance;
      start = begins_of o.start;
      runs = o.runs;
      trials = o.trials;
      seed =
          o.seed;
      candidates = o.candidates;
      rules = o.rules;
    }

abbrev pub task_of : Table → TourOptions → TourTask
task_of table options = task_over (table_size table) (table_distance table) options

-- the near lists of the cities, with the requested number of candidates, or all other cities if there are fewer
pub record AreCandidates (task : TourTask) (near : NearLists) : Type 0 where
  pub size : near.size ≡ task.size
  pub width : near.width ≡ min task.candidates (task.size - 1)
  pub nearest : AreNearest task.distance near

-- city 1, followed by the lists of the savings algorithm around it, without loads
abbrev pub IsSavingsTour : (ℕ → ℕ → ℕ) → (ℕ → List ℕ) → ℕ → List ℕ → Type 0
IsSavingsTour distance near n cities =
    (lists : List (List ℕ)) × (AreSavingsLists distance near n 1 (load_of (replicate n 0)) 0 lists
    × (cities ≡ 1 ∷ flat_map (λ x. x) lists))

abbrev pub IsStartBy : TourTask → NearLists → ℕ → List ℕ → Begins → Type 0
IsStartBy task near j cities AtNearest = IsNearestTour task.distance task.size (1 + j % task.size) cities
IsStartBy task near j cities AtSavings = IsSavingsTour task.distance (near_of near) task.size cities
IsStartBy task near j cities (At given) = cities ≡ given

-- the tour that run j, counted from 0, begins with
abbrev pub IsStart : TourTask → NearLists → ℕ → List ℕ → Type 0
IsStart task near j cities = IsStartBy task near j cities task.start

-- a given start is a tour of the cities
abbrev pub IsGivenTour : ℕ → Start → Type 0
IsGivenTour n (Tour given) = IsTour n given.now
IsGivenTour n Nearest = Unit {0}
IsGivenTour n Savings = Unit {0}

-- a savings tour, if runs begin with it
abbrev pub IsSavedFor : (ℕ → ℕ → ℕ) → (ℕ → List ℕ) → ℕ → List ℕ → Start → Type 0
IsSavedFor distance near n cities Savings = IsSavingsTour distance near n cities × IsTour n cities
IsSavedFor distance near n cities Nearest = Unit {0}
IsSavedFor distance near n cities (Tour given) = Unit {0}

-- the tour that all runs begin with, if there is one: the given tour or the savings tour
abbrev pub common_of : List ℕ → Start → Option (List ℕ)
common_of savings Nearest = None
common_of savings Savings = Some savings
common_of savings (Tour given) = Some given.now

-- a tour that all runs begin with, or none, if each begins with a nearest-neighbour tour of its own
pub record IsCommonStart (task : TourTask) (near : NearLists) (common : Option (List ℕ)) : Type 0 where
  pub tour : MatchOption common (Unit {0}) (IsTour task.size)
  pub start : (j : ℕ) (cities : List ℕ) →
      MatchOption common (IsNearestTour task.distance task.size (1 + j % task.size) cities) (λ c. cities ≡ c) →
      IsStart task near j cities

-- the number of trials per run
abbrev pub trials_of : TourTask → ℕ
trials_of task = if nat_lt task.size 8 then 1 else task.trials
