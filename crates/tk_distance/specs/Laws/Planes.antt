-- The laws of distances in the plane.
use Rattle.std.proofs.Common.{◌≡◌, ℕ, ℤ, ◌-◌, ◌≤◌, List, All, length, ◌*ℤ◌, ◌*◌, pos, ap, ◌∙◌, arith, sym, subst, inl}
use Rattle.std.proofs.Common.{inr}
use Rattle.std.proofs.lemmas.Bool.{cases_lt}
use Rattle.std.proofs.lemmas.Int.{ints}
use Rattle.std.proofs.lemmas.List.{get_or_past}
use Rattle.std.specs.Int.RustNames.{unsigned_abs}
use Rattle.tk_problem.specs.declared.limits.TheConstants.{DISTANCE_LIMIT}
use Rattle.tk_problem.specs.declared.point.Point.{Point}
use Rattle.tk_problem.specs.declared.weights.PlaneKind.{PlaneKind}
use Rattle.tk_problem.specs.declared.point.WholePoint.{WholePoint}
use Rattle.tk_problem.specs.declared.unit.Unit.{Unit}
use Rattle.tk_problem.specs.declared.unit.Unit.TheVariants.{One}
use Rattle.tk_problem.specs.Places.{IsNearOrigin, origin, greatest_coordinate}
use Rattle.tk_problem.specs.Units.{place_in, step_of}
use Rattle.tk_distance.specs.Distance.{gap, IsDistance, IsDistanceOf, reach}
use Rattle.tk_distance.specs.PlaneDistance.{distance_at, distance_of}
use Rattle.tk_distance.specs.PlaneOf.{city_place, city_distance}
use Rattle.tk_distance.specs.Laws.Distances.{limit, distance-unique, distance_at-limit, distance_at-nothing}
use Rattle.tk_distance.specs.Laws.Distances.{distance_at-rises, distance_at-swap}

gap-swap : (x y : ℤ) → gap x y ≡ gap y x
gap-swap x y = omega (arith, ints)

gap-same : (x : ℤ) → gap x x ≡ 0
gap-same x = omega (arith, ints)

gap-limit : (x y : ℤ) → unsigned_abs x ≤ greatest_coordinate → unsigned_abs y ≤ greatest_coordinate →
    gap x y ≤ reach
gap-limit x y a b = omega (arith, ints)

-- the difference of whole numbers of a unit, in units of 10^-9
pub gap-in : (unit : Unit) (x y : ℤ) → gap (x *ℤ pos (step_of unit)) (y *ℤ pos (step_of unit)) ≡ gap x y * step_of unit
gap-in One x y = omega (arith, ints)
gap-in _ x y = omega (arith, ints)

pub distance_of-swap : (kind : PlaneKind) (p q : Point) → distance_of kind p q ≡ distance_of kind q p
distance_of-swap kind p q = rw (gap-swap p.x q.x, gap-swap p.y q.y)

pub distance_of-same : (kind : PlaneKind) (p : Point) → distance_of kind p p ≡ 0
distance_of-same kind p = rw (gap-same p.x, gap-same p.y) (distance_at-nothing kind)

origin-near : IsNearOrigin origin
origin-near = record { x = omega arith; y = omega arith }

city_place-near : (places : List Point) → All IsNearOrigin places → (c : ℕ) → IsNearOrigin (city_place places c)
city_place-near places near c = elim (cases_lt (c - 1) (length places)) [
  | inl lt ↦ near (c - 1) origin lt
  | inr le ↦ subst IsNearOrigin (sym (get_or_past places (c - 1) origin le)) origin-near
]

pub city_gap-limit : (places : List Point) → All IsNearOrigin places → (a b : ℕ) →
    gap (city_place places a).x (city_place places b).x ≤ reach
city_gap-limit places near a b =
    gap-limit (city_place places a).x (city_place places b).x (city_place-near places near a).x
    (city_place-near places near b).x

pub city_gap_y-limit : (places : List Point) → All IsNearOrigin places → (a b : ℕ) →
    gap (city_place places a).y (city_place places b).y ≤ reach
city_gap_y-limit places near a b =
    gap-limit (city_place places a).y (city_place places b).y (city_place-near places near a).y
    (city_place-near places near b).y

distance_of-limit : (kind : PlaneKind) (p q : Point) → IsNearOrigin p → IsNearOrigin q →
    distance_of kind p q ≤ DISTANCE_LIMIT
distance_of-limit kind p q a b =
    distance_at-limit kind (gap p.x q.x) (gap p.y q.y) (gap-limit p.x q.x a.x b.x) (gap-limit p.y q.y a.y b.y)

-- the distance of points in whole numbers of a unit, given the differences of their coordinates
pub whole_places : (kind : PlaneKind) (unit : Unit) (p q : WholePoint) (dx dy d : ℕ) → dx ≡ gap p.x q.x
    → dy ≡ gap p.y q.y
    → IsDistance kind (dx * step_of unit) (dy * step_of unit) d →
    IsDistanceOf kind (place_in unit p) (place_in unit q) d
whole_places kind unit p q dx dy d x y is =
    let ex : gap (place_in unit p).x (place_in unit q).x ≡ dx * step_of unit = gap-in unit p.x q.x
    ∙ ap (λ g. g * step_of unit) (sym x) in
    let ey : gap (place_in unit p).y (place_in unit q).y ≡ dy * step_of unit = gap-in unit p.y q.y
    ∙ ap (λ g. g * step_of unit) (sym y) in
    rw (ex, ey) is

pub city_distance-limit : (kind : PlaneKind) (places : List Point) → All IsNearOrigin places → (a b : ℕ) →
    city_distance kind places a b ≤ DISTANCE_LIMIT
city_distance-limit kind places near a b =
    distance_of-limit kind (city_place places a) (city_place places b) (city_place-near places near a)
    (city_place-near places near b)

pub IsDistanceOf-limit : (kind : PlaneKind) (p q : Point) (d : ℕ) → IsNearOrigin p → IsNearOrigin q →
    IsDistanceOf kind p q d → d ≤ DISTANCE_LIMIT
IsDistanceOf-limit kind p q d a b is =
    limit kind (gap p.x q.x) (gap p.y q.y) d (gap-limit p.x q.x a.x b.x) (gap-limit p.y q.y a.y b.y) is

pub distance_of-unique : (kind : PlaneKind) (p q : Point) (d : ℕ) → IsDistanceOf kind p q d → d ≡ distance_of kind p q
distance_of-unique kind p q d is = distance-unique kind (gap p.x q.x) (gap p.y q.y) d is

-- ---- the distance at a difference in x only

pub floor-rises : (kind : PlaneKind) (s t : ℕ) → s ≤ t → distance_at kind s 0 ≤ distance_at kind t 0
floor-rises kind s t below = distance_at-rises kind s 0 t 0 below (omega arith)

pub floor-bounds : (kind : PlaneKind) (p q : Point) → distance_at kind (gap p.x q.x) 0 ≤ distance_of kind p q
floor-bounds kind p q = distance_at-rises kind (gap p.x q.x) 0 (gap p.x q.x) (gap p.y q.y) (omega arith) (omega arith)

-- a difference in y gives the same lower bound as one in x
pub floor-bounds_y : (kind : PlaneKind) (p q : Point) → distance_at kind (gap p.y q.y) 0 ≤ distance_of kind p q
floor-bounds_y kind p q =
    rw (distance_at-swap kind (gap p.x q.x) (gap p.y q.y))
    (distance_at-rises kind (gap p.y q.y) 0 (gap p.y q.y) (gap p.x q.x) (omega arith) (omega arith))
