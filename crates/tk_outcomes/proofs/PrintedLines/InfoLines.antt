-- The lines on a problem: their lengths and their pieces.
use Rattle.std.proofs.Common.{◌≡◌, refl, ℕ, ◌+◌, ◌/◌, ◌%◌, ◌^◌, ◌≤◌, Bool, true, false, List, [], ◌++◌}
use Rattle.std.proofs.Common.{Option, None, Some, length, length-append, arith}
use Rattle.std.specs.Prelude.{ℤ, codes, decimal, ◌==◌, if◌then◌else◌}
use Rattle.std.specs.Int.{is_negative}
use Rattle.std.specs.Int.RustNames.{unsigned_abs}
use Rattle.tk_problem.specs.Places.{scale}
use Rattle.tk_problem.specs.WeightWords.{plane_word}
use Rattle.tk_problem.specs.declared.weights.PlaneKind.{PlaneKind}
use Rattle.tk_problem.specs.declared.weights.PlaneKind.TheVariants as planes
use Rattle.tk_writers.specs.Written.{line}
use Rattle.tk_writers.proofs.Pieces.NumberLengths.{length_decimal}
use Rattle.tk_outcomes.specs.declared.info.Area.{Area}
use Rattle.tk_outcomes.specs.declared.info.DistanceInfo.{DistanceInfo}
use Rattle.tk_outcomes.specs.declared.info.DistanceInfo.TheVariants.{Plane, Explicit}
use Rattle.tk_outcomes.specs.declared.info.ProblemInfo.{ProblemInfo}
use Rattle.tk_outcomes.specs.declared.info.RoutingInfo.{RoutingInfo}
use Rattle.tk_outcomes.specs.Lines.InfoLines.{area_lines, bounds_line, coordinate_text, distance_lines, fraction_digits}
use Rattle.tk_outcomes.specs.Lines.InfoLines.{fraction_text, info_lines, routing_lines, sign_text}
use Rattle.tk_outcomes.specs.Lines.InfoLines.{type_word, whole_line}
use Rattle.tk_outcomes.proofs.PrintedLines.Decimals.{digits_short}

fraction_short : (fraction : ℕ) → length (fraction_text fraction) ≤ 577
fraction_short fraction =
    let digits = digits_short 9 fraction in
    elim (fraction == 0) as (λ b. length (if b then [] else codes "." ++ fraction_digits 9 fraction) ≤ 577) [
      | true ↦ omega arith
      | false ↦ omega (arith, digits, length-append (codes ".") (fraction_digits 9 fraction))
    ]

sign_short : (b : Bool) → length (sign_text b) ≤ 1
sign_short true = omega arith
sign_short false = omega arith

coordinate_short : (z : ℤ) → length (coordinate_text z) ≤ 642
unfolding coordinate_text
coordinate_short z =
    let a = sign_short (is_negative z) in let b = length_decimal (unsigned_abs z / scale) in
    let c = fraction_short (unsigned_abs z % scale) in
    simp length-append (omega (arith, a, b, c))

bounds_of : (axis least greatest : List ℕ) → length least ≤ 642 → length greatest ≤ 642 →
    length (line (axis ++ least ++ codes " to " ++ greatest)) ≤ length axis + 1300
bounds_of axis least greatest a b = simp length-append (omega (arith, a, b))

bounds_short : (axis : List ℕ) (least greatest : ℤ) → length (bounds_line axis least greatest) ≤ length axis + 1300
bounds_short axis least greatest =
    bounds_of axis (coordinate_text least) (coordinate_text greatest) (coordinate_short least)
    (coordinate_short greatest)

whole_short : (b : Bool) → length (whole_line b) ≤ 30
whole_short true = omega arith
whole_short false = omega arith

area_of : (whole across down : List ℕ) → length whole ≤ 30 → length across ≤ 1303 → length down ≤ 1303 →
    length (whole ++ across ++ down) ≤ 2700
area_of whole across down a b c = simp length-append (omega (arith, a, b, c))

area_short : (area : Area) → length (area_lines area) ≤ 2700
area_short area =
    area_of (whole_line area.whole) (bounds_line (codes "x: ") area.left area.right)
    (bounds_line (codes "y: ") area.bottom area.top) (whole_short area.whole)
    (bounds_short (codes "x: ") area.left area.right) (bounds_short (codes "y: ") area.bottom area.top)

plane_short : (kind : PlaneKind) → length (plane_word kind) ≤ 7
plane_short planes.Euc2d = omega arith
plane_short planes.Ceil2d = omega arith
plane_short planes.Man2d = omega arith
plane_short planes.Max2d = omega arith
plane_short planes.Att = omega arith

distances_of : (plane area : List ℕ) → length plane ≤ 7 → length area ≤ 2700 →
    length (line (codes "distances: " ++ plane) ++ area) ≤ 2800
distances_of plane area a b = simp length-append (omega (arith, a, b))

distances_short : (distances : DistanceInfo) → length (distance_lines distances) ≤ 2800
distances_short (Plane kind area) =
    distances_of (plane_word kind) (area_lines area) (plane_short kind) (area_short area)
distances_short Explicit = omega arith

type_short : (routing : Option RoutingInfo) → length (type_word routing) ≤ 4
type_short None = omega arith
type_short (Some r) = omega arith

routing_short : (routing : Option RoutingInfo) → length (routing_lines routing) ≤ 400
routing_short None = omega arith
routing_short (Some r) =
    let a = length_decimal r.capacity in let b = length_decimal r.depot in let c = length_decimal r.demand in
    let d = length_decimal r.vehicles in
    simp length-append (omega (arith, a, b, c, d))

pub info_lines_short : (info : ProblemInfo) → length (info_lines info) ≤ 2 ^ 63
info_lines_short info =
    let a = type_short info.routing in let b = length_decimal info.dimension in
    let c = distances_short info.distances in let d = routing_short info.routing in
    simp length-append (omega (arith, info.short, a, b, c, d))

-- the pieces of a coordinate, of the lines of distances and of all lines, as they are put
pub coordinate_pieces : (z : ℤ) (negative : Bool) (magnitude : ℕ) → negative ≡ is_negative z
    → magnitude ≡ unsigned_abs z
    → sign_text negative ++ decimal (magnitude / scale) ++ fraction_text (magnitude % scale) ≡ coordinate_text z
unfolding coordinate_text
coordinate_pieces z negative magnitude sign is = rw (sign, is) refl

pub distance_pieces : (kind : PlaneKind) (area : Area) (word : List ℕ) → word ≡ plane_word kind →
    line (codes "distances: " ++ word) ++ area_lines area ≡ distance_lines (Plane kind area)
distance_pieces kind area word is = rw is refl

pub info_pieces : (info : ProblemInfo) (name type : List ℕ) → name ≡ info.name.items → type ≡ type_word info.routing
    → line (codes "name: " ++ name) ++ line (codes "type: " ++ type)
    ++ line (codes "dimension: " ++ decimal info.dimension) ++ distance_lines info.distances
    ++ routing_lines info.routing ≡ info_lines info
info_pieces info name type name_is type_is = rw (name_is, type_is) refl
