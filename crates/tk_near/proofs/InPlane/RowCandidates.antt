-- What is kept of the cities of a row, one more place at a time.
use Rattle.std.proofs.Common.{◌≡◌, ◌≢◌, ℕ, ◌+◌, ◌<◌, ◌≤◌, List, length, take, refl, sym, ap}
use Rattle.std.proofs.Common.{◌∙◌, arith, subst}
use Rattle.std.specs.Prelude.{◌-ℤ◌, ℤ}
use Rattle.std.specs.Int.RustNames.{unsigned_abs}
use Rattle.tk_problem.specs.declared.limits.TheConstants.{CITY_LIMIT, DISTANCE_LIMIT}
use Rattle.tk_problem.specs.declared.point.Point.{Point}
use Rattle.tk_near.specs.declared.candidates.Candidate.{Candidate}
use Rattle.tk_near.specs.declared.plane.city_point.CityPoint.{CityPoint}
use Rattle.tk_distance.specs.Cities.{IsCity}
use Rattle.tk_near.specs.Near.{IsNear}
use Rattle.tk_near.specs.Keeping.{insert_by, rank, candidate, cities_kept, KeepsFirst}
use Rattle.tk_near.specs.CityPoint.{IsAt, IsPlaced, IsRow, placed_city, nowhere}
use Rattle.tk_near.proofs.InPlane.DistinctPlaces.{OneEach-from_apart}
use Rattle.tk_near.proofs.KeptCandidates.{KeepsFirst-more, KeepsFirst-count, IsNear-from_kept}

-- a difference of two cities, by their places
pub gap_is : (n : ℕ) (place_of : ℕ → Point) (axis : Point → ℤ) (here there : CityPoint) → IsPlaced n place_of here →
    IsPlaced n place_of there →
    unsigned_abs (axis here.place -ℤ axis there.place)
    ≡ unsigned_abs (axis (place_of here.city) -ℤ axis (place_of there.city))
gap_is n place_of axis here there h t =
    ap (λ (v : Point). unsigned_abs (axis v -ℤ axis there.place)) h.1
    ∙ ap (λ (v : Point). unsigned_abs (axis (place_of here.city) -ℤ axis v)) t.1

-- a city that stands up to place p, but not there, stands before it
pub IsAt-before : (row : List CityPoint) (p a : ℕ) → IsAt row (λ q. q < p + 1) a → a ≢ placed_city row p →
    IsAt row (λ q. q < p) a
IsAt-before row p a s ne =
    let apart : s.0 ≢ p = λ e. ne (sym s.3 ∙ ap (placed_city row) e) in (s.0, s.1, omega (arith, s.2), s.3)

module _ {n : ℕ} {place_of : ℕ → Point} {row : List CityPoint} (o : IsRow n place_of row) where
  pub city_small : n ≤ CITY_LIMIT → (W : ℕ → Type 0) (b : ℕ) → IsAt row W b → b < 4294967296
  city_small few W b s = let e = o.each s.0 nowhere s.1 in let same = s.3 in omega (arith, e.0.1)

  pub one_place : (r q : ℕ) → r < length row → q < length row → placed_city row r ≡ placed_city row q → r ≡ q
  one_place r q lr lq e = OneEach-from_apart (λ (v : CityPoint). v.city) nowhere row o.apart r q lr lq e

  -- one more place
  pub with_place : {dist : ℕ → ℕ → ℕ} → ((a b : ℕ) → dist a b ≤ DISTANCE_LIMIT) → n ≤ CITY_LIMIT →
      (c k m then q : ℕ) (W V : ℕ → Type 0) (kept : List Candidate) → KeepsFirst dist c k m (IsAt row W) kept →
      m + 1 ≡ then → q < length row → (W q → ⊥) → ((r : ℕ) → W r → V r) → V q → ((r : ℕ) → V r → r ≢ q → W r) →
      KeepsFirst dist c k then (IsAt row V) (take k (insert_by rank (candidate dist c (placed_city row q)) kept))
  with_place {dist} limit few c k m then q W V kept h count lq fresh keeps now only =
      let city = o.each q nowhere lq in
      KeepsFirst-count dist c k _ _ _ _ count
      (KeepsFirst-more dist c k m (IsAt row W) (IsAt row V) kept (placed_city row q) h
      (λ s. fresh (subst W (one_place s.0 q s.1 lq s.3) s.2))
      (omega (arith, city.0.1))
      (omega (arith, limit c (placed_city row q)))
      (city_small few W)
      (λ a s. (s.0, s.1, keeps s.0 s.2, s.3))
      (q, lq, now, refl)
      (λ a s ne. (s.0, s.1, only s.0 s.2 (λ e. ne (sym s.3 ∙ ap (placed_city row) e)), s.3)))

  -- once all other places were seen
  pub near_place : (dist : ℕ → ℕ → ℕ) (p k m : ℕ) (W : ℕ → Type 0) (kept : List Candidate) → n ≤ CITY_LIMIT →
      p < length row → KeepsFirst dist (placed_city row p) k m (IsAt row W) kept → k ≤ m →
      ((q : ℕ) → q < length row → q ≢ p → W q) → ((q : ℕ) → W q → q ≢ p) →
      IsNear dist n k (placed_city row p) (cities_kept kept)
  near_place dist p k m W kept few lp h enough all only =
      IsNear-from_kept dist n (placed_city row p) k m (IsAt row W) kept h (omega arith) enough
      (λ b city ne. let w = o.whole b city in
      (w.0, w.1, all w.0 w.1 (λ e. ne (sym w.2 ∙ ap (placed_city row) e)), w.2))
      (λ b s. (
        subst (IsCity n) s.3 (o.each s.0 nowhere s.1).0,
        λ same. only s.0 s.2 (one_place s.0 p s.1 lp (s.3 ∙ same)),
      ))
