-- How settings and parameters are stored.
use Rattle.std.specs.Prelude.{◌≡◌, false, List, option_map, map}
use Rattle.std.specs.String.{string_bytes}
use Rattle.indexmap.specs.IndexMap.{IndexMap}
use Rattle.tk_params.specs.declared.key.Key.{Key}
use Rattle.tk_params.specs.declared.value.Setting.{Setting}
use Rattle.tk_params.specs.declared.value.Setting.TheVariants as stored
use Rattle.tk_params.specs.declared.params.Params.TheInside.{Inside as Fields}
use Rattle.tk_params.specs.Requested.{HasEachKeyOnce, AreSettings, ParamsAre, ignored_keys}
use Rattle.tk_params.specs.SearchOf.{search_is}
use Rattle.tk_params.specs.Values.{Value, File, Number, Way, Switch, Ignored, Settings, look, same_key}

-- the value of a stored setting
abbrev pub value_is : Setting → Value
value_is (stored.File name) = File (string_bytes name)
value_is (stored.Number n) = Number n
value_is (stored.Construction way) = Way way
value_is (stored.Switch on) = Switch on
value_is stored.Ignored = Ignored

abbrev pub entry_is : Key × Setting → Key × Value
entry_is e = (e.0, value_is e.1)

-- the settings in a map
abbrev pub settings_in : {S : Type 0} → IndexMap Key Setting S → Settings
settings_in entries = map entry_is entries.entries

-- the values of the other keys do not change
abbrev pub LosesOnly : Key → Settings → Settings → Type 0
LosesOnly key old new = (other : Key) → same_key key other ≡ false → look other new ≡ look other old

-- stored settings are within their limits and have each key at most once; the keys that are not used are listed with
-- them
pub record AreStored (settings : Settings) (unused : List Key) : Type 0 where
  pub limits : AreSettings settings
  pub apart : HasEachKeyOnce settings
  pub ignored : unused ≡ ignored_keys settings

-- the parameters in the fields
abbrev pub params_in : Fields → ParamsAre
params_in p =
    record {
      problem_file = string_bytes p.problem_file;
      tour_file = option_map string_bytes p.tour_file;
      solution_file = option_map string_bytes p.solution_file;
      initial_tour_file = option_map string_bytes p.initial_tour_file;
      search = search_is p.search;
      ignored = p.ignored.items;
    }
