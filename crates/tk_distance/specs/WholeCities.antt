-- Cities whose coordinates are whole numbers of a unit: their points in that unit instead of units of 10^-9.
use Rattle.std.proofs.Common.{◌≡◌, ℕ, ◌-◌, ◌*◌, ◌≤◌, List, map, pos, arith}
use Rattle.std.specs.Borrow.{Bor}
use Rattle.std.specs.Prelude.{slice_index_or}
use Rattle.std.proofs.lemmas.Int.{ints}
use Rattle.std.proofs.lemmas.Nat.{mul-le}
use Rattle.std.proofs.Math.ListN.{get_or-map}
use Rattle.tk_problem.specs.declared.point.Point.{Point}
use Rattle.tk_problem.specs.declared.point.WholePoint.{WholePoint}
use Rattle.tk_problem.specs.declared.points.Places.TheVariants.{Whole}
use Rattle.tk_problem.specs.declared.unit.Unit.{Unit}
use Rattle.tk_problem.specs.declared.unit.Unit.TheVariants.{One}
use Rattle.tk_problem.specs.declared.weights.PlaneKind.TheVariants.{Euc2d}
use Rattle.tk_problem.specs.Units.{place_in, step_of}
use Rattle.tk_problem.specs.PlacesOf.{places_of}
use Rattle.tk_distance.specs.Distance.{gap, reach}
use Rattle.tk_distance.specs.PlaneDistance.{distance_at, distance_of}
use Rattle.tk_distance.specs.Laws.Planes.{floor-bounds, floor-bounds_y, floor-rises, gap-in}
use Rattle.tk_distance.specs.PlaneOf.{city_place, city_distance}

abbrev pub whole_origin : WholePoint
whole_origin = record { x = pos 0; y = pos 0; x_near = omega arith; y_near = omega arith }

-- the whole coordinates of city c
abbrev pub whole_city : List WholePoint → ℕ → WholePoint
whole_city places c = slice_index_or places (c - 1) whole_origin

-- the point of city c, in whole numbers of the unit
abbrev pub whole_city_place : List WholePoint → ℕ → Point
whole_city_place places c = record { x = (whole_city places c).x; y = (whole_city places c).y }

pub whole_gap-limit : (places : List WholePoint) (a b : ℕ) →
    gap (whole_city places a).x (whole_city places b).x ≤ reach
whole_gap-limit places a b = omega (arith, ints, (whole_city places a).x_near, (whole_city places b).x_near)

pub whole_gap_y-limit : (places : List WholePoint) (a b : ℕ) →
    gap (whole_city places a).y (whole_city places b).y ≤ reach
whole_gap_y-limit places a b = omega (arith, ints, (whole_city places a).y_near, (whole_city places b).y_near)

city_place-whole : (unit : Unit) (places : List WholePoint) (c : ℕ) →
    city_place (map (place_in unit) places) c ≡ place_in unit (whole_city places c)
city_place-whole One places c = get_or-map (place_in One) places (c - 1) whole_origin
city_place-whole unit places c = get_or-map (place_in unit) places (c - 1) whole_origin

-- the distance does not decrease when the difference in whole numbers of a unit grows
pub whole_floor-rises : (unit : Unit) (s t : ℕ) → s ≤ t →
    distance_at Euc2d (s * step_of unit) 0 ≤ distance_at Euc2d (t * step_of unit) 0
whole_floor-rises unit s t below = floor-rises Euc2d (s * step_of unit) (t * step_of unit)
    (mul-le s (step_of unit) t (step_of unit) below (omega arith))

module _ (unit : Unit) (places : Bor (List WholePoint)) (a b : ℕ) where
  in_units : (far here : ℕ) → far ≡ here → distance_at Euc2d far 0 ≤ distance_of Euc2d
      (place_in unit (whole_city places.now a)) (place_in unit (whole_city places.now b)) →
      distance_at Euc2d here 0 ≤ city_distance Euc2d (places_of (Whole unit places)) a b
  in_units far here same floor =
      rw (city_place-whole unit places.now a, city_place-whole unit places.now b, ← same) floor

  -- the distance at a difference in x only, or in y only, is at most the distance
  pub whole_floor : distance_at Euc2d (gap (whole_city places.now a).x (whole_city places.now b).x * step_of unit) 0
      ≤ city_distance Euc2d (places_of (Whole unit places)) a b
  whole_floor =
      let p = whole_city places.now a in
      let q = whole_city places.now b in
      in_units _ _ (gap-in unit p.x q.x) (floor-bounds Euc2d (place_in unit p) (place_in unit q))

  pub whole_floor_y : distance_at Euc2d (gap (whole_city places.now a).y (whole_city places.now b).y * step_of unit) 0
      ≤ city_distance Euc2d (places_of (Whole unit places)) a b
  whole_floor_y =
      let p = whole_city places.now a in
      let q = whole_city places.now b in
      in_units _ _ (gap-in unit p.y q.y) (floor-bounds_y Euc2d (place_in unit p) (place_in unit q))
