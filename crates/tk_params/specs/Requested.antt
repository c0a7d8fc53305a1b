-- The parameters that a parameter file specifies: the values of its keys, and the defaults of the others.
use Rattle.std.specs.Prelude.{◌≢◌, ◌≤◌, ℕ, Bool, true, false, List, [], ◌∷◌, length, Option, Some, None, All, IfSome}
use Rattle.std.specs.Prelude.{option_map, unwrap_or, if◌then◌else◌}
use Rattle.std.specs.List.{IsDistinct}
use Rattle.std.specs.Map.{keys_of}
use Rattle.tk_params.specs.declared.key.Key.{Key}
use Rattle.tk_params.specs.declared.key.Key.TheVariants as keys
use Rattle.tk_params.specs.declared.value.Construction.{Construction}
use Rattle.tk_params.specs.declared.value.Construction.TheVariants.{Nearest}
use Rattle.tk_params.specs.Keys.{all_keys}
use Rattle.tk_params.specs.Values.{Value, File, Number, Way, Switch, Ignored, Settings, greatest, least, look, same_key}

-- the numbers and choices of a search. Without max_trials, a run has as many trials as there are cities
pub record SearchIs : Type 0 where
  pub runs : ℕ
  pub max_trials : Option ℕ
  pub seed : ℕ
  pub max_candidates : ℕ
  pub construction : Construction
  pub final_sweep : Bool
  pub or_segment : ℕ

-- the files and the search, and the keys that were read but are not used, in the order of the file
pub record ParamsAre : Type 0 where
  pub problem_file : List ℕ
  pub tour_file : Option (List ℕ)
  pub solution_file : Option (List ℕ)
  pub initial_tour_file : Option (List ℕ)
  pub search : SearchIs
  pub ignored : List Key

abbrev pub file_in : Option Value → Option (List ℕ)
file_in (Some (File name)) = Some name
file_in _ = None

abbrev pub asked_number : Option Value → Option ℕ
asked_number (Some (Number n)) = Some n
asked_number _ = None

abbrev pub way_in : Option Value → Option Construction
way_in (Some (Way way)) = Some way
way_in _ = None

abbrev pub switch_in : Option Value → Option Bool
switch_in (Some (Switch on)) = Some on
switch_in _ = None

abbrev pub is_ignored : Value → Bool
is_ignored Ignored = true
is_ignored _ = false

-- the keys that are read but not used
unfoldable pub ignored_keys : Settings → List Key
ignored_keys [] = []
ignored_keys (s ∷ ss) = let rest = ignored_keys ss in if is_ignored s.1 then s.0 ∷ rest else rest

-- the search of settings
unfoldable pub searched : Settings → SearchIs
searched ss =
    record {
      runs = unwrap_or (asked_number (look keys.Runs ss)) 10;
      max_trials = asked_number (look keys.MaxTrials ss);
      seed = unwrap_or (asked_number (look keys.Seed ss)) 1;
      max_candidates = unwrap_or (asked_number (look keys.MaxCandidates ss)) 5;
      construction = unwrap_or (way_in (look keys.Construction ss)) Nearest;
      final_sweep = unwrap_or (switch_in (look keys.FinalSweep ss)) false;
      or_segment = unwrap_or (asked_number (look keys.OrSegment ss)) 3;
    }

-- the parameters of settings that name this problem file
unfoldable pub requested_of : List ℕ → Settings → ParamsAre
requested_of problem ss =
    record {
      problem_file = problem;
      tour_file = file_in (look keys.TourFile ss);
      solution_file = file_in (look keys.SolutionFile ss);
      initial_tour_file = file_in (look keys.InitialTourFile ss);
      search = searched ss;
      ignored = ignored_keys ss;
    }

-- the parameters of settings; None if they do not name the problem file
abbrev pub requested : Settings → Option ParamsAre
requested ss = option_map (λ problem. requested_of problem ss) (file_in (look keys.ProblemFile ss))

-- ---- limits

-- a file name: it is not empty, and contains no dollar sign
pub record IsFileName (name : List ℕ) : Type 0 where
  pub some : name ≢ []
  pub no_dollar : All (λ b. b ≢ 36) name

pub record IsInLimits (low high n : ℕ) : Type 0 where
  pub least : low ≤ n
  pub greatest : n ≤ high

-- the values that a key allows
abbrev pub IsSetting : Key → Value → Type 0
IsSetting key (File name) = IsFileName name
IsSetting key (Number n) = IsInLimits (least key) (greatest key) n
IsSetting key _ = Unit {0}

abbrev pub AreSettings : Settings → Type 0
AreSettings ss = All (λ s. IsSetting s.0 s.1) ss

-- each key occurs at most once
abbrev pub HasEachKeyOnce : Settings → Type 0
HasEachKeyOnce ss = IsDistinct same_key (keys_of ss)

-- parameters with file names, and at most as many ignored keys as there are keys
pub record AreWithinLimits (p : ParamsAre) : Type 0 where
  pub problem_file : IsFileName p.problem_file
  pub tour_file : IfSome p.tour_file IsFileName
  pub solution_file : IfSome p.solution_file IsFileName
  pub initial_tour_file : IfSome p.initial_tour_file IsFileName
  pub few_ignored : length p.ignored ≤ length all_keys
