-- The values of the keys of a parameter file, and the meaning of its entries.
use Rattle.std.specs.Prelude.{ℕ, Bool, true, false, not, ◌&&◌, ◌||◌, ◌==◌, List, [], ◌∷◌, Option, Some, None}
use Rattle.std.specs.Prelude.{option_map, is_some, if◌then◌else◌, codes}
use Rattle.std.specs.List.{list_any}
use Rattle.std.specs.Map.{lookup}
use Rattle.std.specs.Str.{is_utf8}
use Rattle.tk_problem.specs.declared.limits.TheConstants.{CANDIDATE_LIMIT}
use Rattle.tk_words.specs.Lex.{is_empty, integer}
use Rattle.tk_words.specs.Words.{spells}
use Rattle.tk_words.specs.Entry.{in_range, natural_or_zero}
use Rattle.tk_params.specs.declared.key.Key.{Key}
use Rattle.tk_params.specs.declared.key.Key.TheVariants as keys
use Rattle.tk_params.specs.declared.value.Construction.{Construction}
use Rattle.tk_params.specs.declared.value.Construction.TheVariants.{Nearest, Savings}
use Rattle.tk_params.specs.declared.fault.ParamKind.{ParamKind}
use Rattle.tk_params.specs.declared.fault.ParamKind.TheVariants as kinds
use Rattle.tk_params.specs.Keys.{key_code, is_file}
use Rattle.tk_params.specs.Entries.{Entry, Blank, Wrong, Says, entry_of}

-- the value of a key
pub data Value : Type 0 where
  File : (name : List ℕ) → Value
  Number : (n : ℕ) → Value
  Way : (way : Construction) → Value
  Switch : (on : Bool) → Value
  Ignored : Value

-- keys and their values, in the order of the file
abbrev pub Settings : Type 0
Settings = List (Key × Value)

abbrev pub same_key : Key → Key → Bool
same_key a b = key_code a == key_code b

-- the value of the key
abbrev pub look : Key → Settings → Option Value
look key ss = lookup (same_key key) ss

abbrev pub has_key : Key → Settings → Bool
has_key key ss = is_some (look key ss)

-- ---- values

-- the limits of a key's number
abbrev pub least : Key → ℕ
least keys.Seed = 0
least _ = 1

abbrev pub greatest : Key → ℕ
greatest keys.Runs = 10000
greatest keys.MaxTrials = 1000000
greatest keys.Seed = 4294967295
greatest keys.MaxCandidates = CANDIDATE_LIMIT
greatest keys.OrSegment = 3
greatest _ = 0

-- an integer within limits
abbrev pub number_within : ℕ → ℕ → List ℕ → Option ℕ
number_within low high bs = if in_range low high (integer bs) then Some (natural_or_zero (integer bs)) else None

-- a number that the key allows
abbrev pub number_value : Key → List ℕ → Option Value
number_value key bs = option_map Number (number_within (least key) (greatest key) bs)

abbrev pub construction_of : List ℕ → Option Construction
construction_of bs =
    if spells bs (codes "NEAREST") then Some Nearest else (if spells bs (codes "SAVINGS") then Some Savings else None)

abbrev pub switch_of : List ℕ → Option Bool
switch_of bs = if spells bs (codes "YES") then Some true else (if spells bs (codes "NO") then Some false else None)

-- a file name is not empty, and is UTF-8
abbrev pub file_of : List ℕ → Option Value
file_of bs = if is_empty bs || not (is_utf8 bs) then None else Some (File bs)

-- the value of a key, given its bytes; None if the key does not allow it
abbrev pub setting_value : Key → List ℕ → Option Value
setting_value keys.Runs bs = number_value keys.Runs bs
setting_value keys.MaxTrials bs = number_value keys.MaxTrials bs
setting_value keys.Seed bs = number_value keys.Seed bs
setting_value keys.MaxCandidates bs = number_value keys.MaxCandidates bs
setting_value keys.OrSegment bs = number_value keys.OrSegment bs
setting_value keys.Construction bs = option_map Way (construction_of bs)
setting_value keys.FinalSweep bs = option_map Switch (switch_of bs)
setting_value keys.MoveType bs = Some Ignored
setting_value keys.PatchingA bs = Some Ignored
setting_value keys.PatchingC bs = Some Ignored
setting_value keys.Precision bs = Some Ignored
setting_value keys.TraceLevel bs = Some Ignored
setting_value keys.Optimum bs = Some Ignored
setting_value _ bs = file_of bs

-- ---- entries

-- the meaning of an entry: it does nothing, it has a fault, or it sets a key
pub data Meaning : Type 0 where
  Nothing : Meaning
  Faulty : (kind : ParamKind) → Meaning
  Sets : (key : Key) (value : Value) → Meaning

-- the settings that an entry adds
abbrev pub settings_of : Meaning → Settings
settings_of (Sets key value) = (key, value) ∷ []
settings_of _ = []

abbrev pub sets : Key → Option Value → Meaning
sets key None = Faulty kinds.BadValue
sets key (Some v) = Sets key v

-- whether a value is a file name with a dollar sign
abbrev pub has_dollar : Key → List ℕ → Bool
has_dollar key bs = is_file key && list_any (λ b. b == 36) bs

-- the meaning of a key with its value, after these settings
abbrev pub key_means : Settings → Key → List ℕ → Meaning
key_means before key bs =
    if has_key key before then Faulty kinds.RepeatedKey
    else (if has_dollar key bs then Faulty kinds.DollarInName
    else sets key (setting_value key bs))

-- the meaning of an entry, after these settings
abbrev pub means : Settings → Entry → Meaning
means before Blank = Nothing
means before (Wrong kind) = Faulty kind
means before (Says key bs) = key_means before key bs

-- the meaning of a line, given without leading blanks, after these settings
abbrev pub line_means : Settings → List ℕ → Meaning
line_means before bs = means before (entry_of bs)
