-- The stored headers, and the pieces of a problem that they come from.
use Rattle.std.specs.Prelude.{◌≡◌, ◌≤◌, List, [], length, unwrap_or}
use Rattle.tk_problem.specs.declared.limits.TheConstants.{CAPACITY_LIMIT, CITY_LIMIT}
use Rattle.tk_words.specs.declared.keyword.Keyword.TheVariants as words
use Rattle.tk_problem_text.specs.declared.headers.Headers.{Headers}
use Rattle.tk_problem_text.specs.HeaderValues.{problem_type_of, weight_type_of, weight_format_of, header_number}
use Rattle.tk_problem_text.specs.HeaderValues.{name_of}
use Rattle.tk_lines.specs.Pieces.{Piece, has, value_of}
use Rattle.tk_problem_text.specs.Reader.Kept.{KeepsHeader}

pub record HasHeaders (h : Headers) (ps : List Piece) : Type 0 where
  pub named : h.has_name ≡ has words.Name ps
  pub name : h.name.items ≡ name_of (unwrap_or (value_of words.Name ps) [])
  pub short : length h.name.items ≤ 1024
  pub problem_type : KeepsHeader words.Type problem_type_of h.problem_type ps
  pub dimension : KeepsHeader words.Dimension (header_number 2 CITY_LIMIT) h.dimension ps
  pub capacity : KeepsHeader words.Capacity (header_number 1 CAPACITY_LIMIT) h.capacity ps
  pub weight_type : KeepsHeader words.EdgeWeightType weight_type_of h.weight_type ps
  pub weight_format : KeepsHeader words.EdgeWeightFormat weight_format_of h.weight_format ps
  pub coordinate_type : h.has_coordinate_type ≡ has words.NodeCoordType ps
  pub display_type : h.has_display_type ≡ has words.DisplayDataType ps
