-- The values of a problem's headers.
use Rattle.std.specs.Prelude.{ℕ, Bool, nat_le, ◌&&◌, ◌||◌, List, Option, Some, None, ℤ, pos, if◌then◌else◌, codes}
use Rattle.std.specs.Prelude.{find, option_map}
use Rattle.tk_problem.specs.declared.weights.PlaneKind.{PlaneKind}
use Rattle.tk_problem.specs.declared.weights.Format.{Format}
use Rattle.tk_problem.specs.WeightWords.{plane_word, all_planes, format_word, all_formats}
use Rattle.tk_problem_text.specs.declared.header_values.ProblemType.{ProblemType}
use Rattle.tk_problem_text.specs.declared.header_values.ProblemType.TheVariants as types
use Rattle.tk_problem_text.specs.declared.header_values.WeightType.{WeightType}
use Rattle.tk_problem_text.specs.declared.header_values.WeightType.TheVariants as weight_types
use Rattle.tk_problem_text.specs.declared.header_values.WeightFormat.{WeightFormat}
use Rattle.tk_problem_text.specs.declared.header_values.WeightFormat.TheVariants as weight_formats
use Rattle.tk_words.specs.Lex.{integer, trim, after_word, is_empty}
use Rattle.tk_words.specs.Words.{spells}
use Rattle.tk_lines.specs.HeaderValue.{first_word}

-- the first word of a header's value spells this text, without regard to case
abbrev pub says : List ℕ → List ℕ → Bool
says bs text = spells (first_word bs) text

abbrev pub problem_type_of : List ℕ → Option ProblemType
problem_type_of bs =
    if says bs (codes "TSP") then Some types.Tsp
    else (if says bs (codes "CVRP") then Some types.Cvrp else None)

abbrev pub plane_of : List ℕ → Option PlaneKind
plane_of bs = find (λ kind. says bs (plane_word kind)) all_planes

abbrev pub weight_type_of : List ℕ → Option WeightType
weight_type_of bs =
    if says bs (codes "EXPLICIT") then Some weight_types.Explicit else option_map weight_types.Plane (plane_of bs)

abbrev pub format_of : List ℕ → Option Format
format_of bs = find (λ format. says bs (format_word format)) all_formats

abbrev pub weight_format_of : List ℕ → Option WeightFormat
weight_format_of bs = if says bs (codes "FUNCTION") then Some weight_formats.Function
    else option_map weight_formats.Listed (format_of bs)

abbrev pub is_coordinate_type : List ℕ → Bool
is_coordinate_type bs = says bs (codes "TWOD_COORDS") || says bs (codes "NO_COORDS")

abbrev pub between : ℕ → ℕ → Option ℤ → Option ℕ
between low high (Some (pos n)) = if nat_le low n && nat_le n high then Some n else None
between low high _ = None

-- the first word of a header's value as an integer within these limits
abbrev pub header_number : ℕ → ℕ → List ℕ → Option ℕ
header_number low high bs = between low high (integer (first_word bs))

-- the name in the value of NAME, or Unnamed if it is empty
abbrev pub name_of : List ℕ → List ℕ
name_of bs = let name = trim (after_word bs) in if is_empty name then codes "Unnamed" else name
