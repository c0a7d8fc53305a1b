-- What a sort by x gives.
use Rattle.std.proofs.Common.{◌≡◌, ℕ, zero, suc, ◌+◌, ◌-◌, ◌<◌, ◌≤◌, List, length, refl, arith, true, false, cond}
use Rattle.std.proofs.Common.{get_or, subst, Ordering, Less, Equal, Greater}
use Rattle.std.specs.Prelude.{ℤ, ◌≤ℤ◌}
use Rattle.std.specs.Ordering.{is_lt, int_cmp, nat_cmp, ordering_then}
use Rattle.std.specs.List.Sorted.{IsPermutation}
use Rattle.std.specs.Int.RustNames.{int_lt}
use Rattle.std.proofs.lemmas.Int.{ints}
use Rattle.tk_near.proofs.InPlane.EachCityOnce.{IsRow-moved}
use Rattle.tk_near.specs.declared.plane.city_point.CityPoint.{CityPoint}
use Rattle.tk_problem.specs.declared.point.Point.{Point}
use Rattle.tk_near.specs.CityPoint.{nowhere, IsRow}
use Rattle.tk_near.specs.Sweep.{point_at, IsXOrder}

not_less : (a b : ℤ) (o : Ordering) → is_lt (ordering_then (int_cmp a b) o) ≡ false → b ≤ℤ a
not_less a b o =
    (elim (int_lt a b) as (λ v. int_lt a b ≡ v →
    is_lt (ordering_then (cond v Less (cond (int_lt b a) Greater Equal)) o) ≡ false → b ≤ℤ a) [
      | true ↦ λ e h. cc
      | false ↦ λ e h. grind (arith, ints)
    ]) refl

climbs : (row : List CityPoint) → ((k : ℕ) → k + 1 < length row → (point_at row k).x ≤ℤ (point_at row (k + 1)).x) →
    (i t : ℕ) → i + t < length row → (point_at row i).x ≤ℤ (point_at row (i + t)).x
climbs row up i zero l = let e : i ≡ i + 0 = omega arith in
    subst (λ v. (point_at row i).x ≤ℤ (point_at row v).x) e (omega (arith, ints))
climbs row up i (suc t) l =
    let e : i + t + 1 ≡ i + suc t = omega arith in
    let here = climbs row up i t (omega arith) in
    let next = up (i + t) (omega arith) in
    subst (λ v. (point_at row i).x ≤ℤ (point_at row v).x) e (omega (arith, ints))

pub IsXOrder-from_sort : (n : ℕ) (place_of : ℕ → Point) (first row : List CityPoint) → IsRow n place_of first →
    IsPermutation first row →
    ((k : ℕ) (d : CityPoint) → 0 ≤ k → k + 1 < length row →
    is_lt (ordering_then (int_cmp (get_or row (k + 1) d).place.x (get_or row k d).place.x)
    (nat_cmp (get_or row (k + 1) d).city (get_or row k d).city)) ≡ false) → IsXOrder n place_of row
IsXOrder-from_sort n place_of first row o moved sorted =
    let adjacent : (k : ℕ) → k + 1 < length row → (point_at row k).x ≤ℤ (point_at row (k + 1)).x = λ k l.
    not_less ((point_at row (k + 1)).x) ((point_at row k).x) _ (sorted k nowhere (omega arith) l) in
    record {
      cities = IsRow-moved n place_of first row o moved;
      rising = λ i j l m. let e : i + (j - i) ≡ j = omega arith in
          subst (λ v. (point_at row i).x ≤ℤ (point_at row v).x) e (climbs row adjacent i (j - i) (omega arith));
    }
