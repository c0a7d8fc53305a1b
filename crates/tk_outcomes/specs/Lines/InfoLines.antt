-- The lines on a problem that was read.
use Rattle.std.specs.Prelude.{ℕ, zero, suc, ℤ, ◌/◌, ◌%◌, ◌^◌, ◌==◌, Bool, List, [], ◌++◌, Option, Some, None}
use Rattle.std.specs.Prelude.{codes, decimal, if◌then◌else◌}
use Rattle.std.specs.Int.{is_negative}
use Rattle.std.specs.Int.RustNames.{unsigned_abs}
use Rattle.tk_problem.specs.Places.{scale}
use Rattle.tk_problem.specs.WeightWords.{plane_word}
use Rattle.tk_writers.specs.Written.{line}
use Rattle.tk_outcomes.specs.declared.info.Area.{Area}
use Rattle.tk_outcomes.specs.declared.info.DistanceInfo.{DistanceInfo}
use Rattle.tk_outcomes.specs.declared.info.DistanceInfo.TheVariants.{Plane, Explicit}
use Rattle.tk_outcomes.specs.declared.info.ProblemInfo.{ProblemInfo}
use Rattle.tk_outcomes.specs.declared.info.RoutingInfo.{RoutingInfo}

-- the decimal places of a fraction in units of 10^-k, without zeros at the end
unfoldable pub fraction_digits : ℕ → ℕ → List ℕ
fraction_digits zero fraction = []
fraction_digits (suc k) fraction =
    if fraction == 0 then [] else decimal (fraction / 10 ^ k) ++ fraction_digits k (fraction % 10 ^ k)

-- a fraction in units of 10^-9
abbrev pub fraction_text : ℕ → List ℕ
fraction_text fraction = if fraction == 0 then [] else codes "." ++ fraction_digits 9 fraction

abbrev pub sign_text : Bool → List ℕ
sign_text negative = if negative then codes "-" else []

-- a coordinate in units of 10^-9, as a decimal number
unfoldable pub coordinate_text : ℤ → List ℕ
coordinate_text z = sign_text (is_negative z) ++ decimal (unsigned_abs z / scale)
    ++ fraction_text (unsigned_abs z % scale)

-- the bounds of the coordinates of an axis
abbrev pub bounds_line : List ℕ → ℤ → ℤ → List ℕ
bounds_line axis least greatest = line (axis ++ coordinate_text least ++ codes " to " ++ coordinate_text greatest)

abbrev pub whole_line : Bool → List ℕ
whole_line whole = line (if whole then codes "coordinates: whole" else codes "coordinates: decimal")

abbrev pub area_lines : Area → List ℕ
area_lines area =
    whole_line area.whole
    ++ bounds_line (codes "x: ") area.left area.right
    ++ bounds_line (codes "y: ") area.bottom area.top

abbrev pub distance_lines : DistanceInfo → List ℕ
distance_lines (Plane kind area) = line (codes "distances: " ++ plane_word kind) ++ area_lines area
distance_lines Explicit = line (codes "distances: EXPLICIT") ++ line (codes "coordinates: none")

abbrev pub type_word : Option RoutingInfo → List ℕ
type_word None = codes "TSP"
type_word (Some _) = codes "CVRP"

abbrev pub routing_lines : Option RoutingInfo → List ℕ
routing_lines None = []
routing_lines (Some r) =
    line (codes "capacity: " ++ decimal r.capacity)
    ++ line (codes "depot: " ++ decimal r.depot)
    ++ line (codes "total demand: " ++ decimal r.demand)
    ++ line (codes "vehicles: at least " ++ decimal r.vehicles)

abbrev pub info_lines : ProblemInfo → List ℕ
info_lines info =
    line (codes "name: " ++ info.name.items)
    ++ line (codes "type: " ++ type_word info.routing)
    ++ line (codes "dimension: " ++ decimal info.dimension)
    ++ distance_lines info.distances
    ++ routing_lines info.routing
