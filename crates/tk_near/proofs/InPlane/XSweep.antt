-- A sweep in x order, one place at a time.
use Rattle.std.proofs.Common.{◌≡◌, ◌≢◌, ℕ, zero, suc, ◌+◌, ◌*◌, ◌-◌, ◌<◌, ◌≤◌, List, length}
use Rattle.std.proofs.Common.{take, replicate, sym, arith, get_or, subst}
use Rattle.std.specs.Prelude.{◌-ℤ◌}
use Rattle.std.specs.Int.RustNames.{unsigned_abs}
use Rattle.std.proofs.lemmas.Int.{ints}
use Rattle.tk_problem.specs.declared.limits.TheConstants.{CITY_LIMIT, DISTANCE_LIMIT}
use Rattle.tk_problem.specs.declared.point.Point.{Point}
use Rattle.tk_near.specs.declared.candidates.Candidate.{Candidate}
use Rattle.tk_near.specs.declared.plane.city_point.CityPoint.{CityPoint}
use Rattle.tk_near.specs.Near.{IsNear}
use Rattle.tk_near.specs.Keeping.{Climbing, insert_by, rank, candidate, empty_slot, cities_kept, KeepsFirst}
use Rattle.tk_near.specs.CityPoint.{IsAt, nowhere, placed_city}
use Rattle.tk_near.specs.Sweep.{IsXOrder, IsFloor, IsSwept, IsBelow, point_at}
use Rattle.tk_near.proofs.SortedInsertion.{insert_by-full}
use Rattle.tk_near.proofs.InPlane.RowCandidates.{city_small, gap_is, near_place, with_place}
use Rattle.tk_near.proofs.KeptCandidates.{KeepsFirst-none, KeepsFirst-count, kept_climbing, kept_length}

-- a candidate that is too far changes nothing
kept_without : (k bound : ℕ) (kept : List Candidate) (x : Candidate) → Climbing rank kept → length kept ≡ k → 1 ≤ k →
    IsBelow bound kept → bound ≤ x.distance → kept ≡ take k (insert_by rank x kept)
kept_without k bound kept x up full one h l =
    let last : length kept - 1 ≡ k - 1 = omega arith in
    let h' : rank (get_or kept (k - 1) empty_slot) < bound * 4294967296 = rw last at h in
    insert_by-full rank x k kept empty_slot up full one (omega (arith, h'))

abbrev Window : ℕ → ℕ → ℕ → ℕ → Type 0
Window low high p q = (low ≤ q) × (q < high) × (q ≢ p)

module _ {dist : ℕ → ℕ → ℕ} (limit : (a b : ℕ) → dist a b ≤ DISTANCE_LIMIT) {n : ℕ} {place_of : ℕ → Point}
    {row : List CityPoint} (o : IsXOrder n place_of row) (few : n ≤ CITY_LIMIT) where
  climbing : (c k m : ℕ) (W : ℕ → Type 0) (kept : List Candidate) → KeepsFirst dist c k m (IsAt row W) kept →
      Climbing rank kept
  climbing c k m W kept h = kept_climbing (λ b. omega (arith, limit c b)) (city_small o.cities few W) h

  -- one more place that is too far
  with_far_place : (c k m then q : ℕ) (W V : ℕ → Type 0) (kept : List Candidate)
      → KeepsFirst dist c k m (IsAt row W) kept → m + 1 ≡ then → q < length row → (W q → ⊥)
      → ((r : ℕ) → W r → V r) → V q → ((r : ℕ) → V r → r ≢ q → W r) → 1 ≤ k
      → IsBelow (dist c (placed_city row q)) kept → KeepsFirst dist c k then (IsAt row V) kept
  with_far_place c k m then q W V kept h count lq fresh keeps now only one far =
      let x : Candidate = candidate dist c (placed_city row q) in
      subst (KeepsFirst dist c k then (IsAt row V))
      (sym (kept_without k (dist c (placed_city row q)) kept x (climbing c k m W kept h) (kept_length h) one far
      (omega arith)))
      (with_place o.cities limit few c k m then q W V kept h count lq fresh keeps now only)

  far_below : (c k p high low : ℕ) (kept : List Candidate) → high ≤ length row → low ≤ p → p < high → 1 ≤ k →
      ((q : ℕ) → q < low → IsBelow (dist c (placed_city row q)) kept) →
      KeepsFirst dist c k (high - low - 1) (IsAt row (Window low high p)) kept →
      KeepsFirst dist c k (high - 0 - 1) (IsAt row (Window 0 high p)) kept
  far_below c k p high zero kept in' lp ph one far h = h
  far_below c k p high (suc l) kept in' lp ph one far h =
      far_below c k p high l kept in' (omega arith) ph one (λ q lt. far q (omega arith))
      (with_far_place c k (high - suc l - 1) (high - l - 1) l (Window (suc l) high p) (Window l high p) kept h
      (omega arith) (omega arith) (omega arith) (omega arith) (omega arith) (omega arith) one (far l (omega arith)))

  far_above : (c k p low t high : ℕ) (kept : List Candidate) → high + t ≡ length row → low ≤ p → p < high → 1 ≤ k →
      ((q : ℕ) → high ≤ q → q < length row → IsBelow (dist c (placed_city row q)) kept) →
      KeepsFirst dist c k (high - low - 1) (IsAt row (Window low high p)) kept →
      KeepsFirst dist c k (length row - low - 1) (IsAt row (Window low (length row) p)) kept
  far_above c k p low zero high kept e lp ph one far h =
      let same : high ≡ length row = omega arith in
      subst (λ v. KeepsFirst dist c k (v - low - 1) (IsAt row (Window low v p)) kept) same h
  far_above c k p low (suc t) high kept e lp ph one far h =
      far_above c k p low t (suc high) kept (omega arith) lp (omega arith) one (λ q a b. far q (omega arith) b)
      (with_far_place c k (high - low - 1) (suc high - low - 1) high (Window low high p) (Window low (suc high) p) kept
      h (omega arith) (omega arith) (omega arith) (omega arith) (omega arith) (omega arith) one
      (far high (omega arith) (omega arith)))

  -- a place at least as far in x as the bound tells is too far
  far_place : (floor : ℕ → ℕ) → IsFloor dist place_of floor → (p q s : ℕ) (kept : List Candidate) → p < length row →
      q < length row → s ≤ unsigned_abs ((point_at row p).x -ℤ (point_at row q).x) → IsBelow (floor s) kept →
      IsBelow (dist (placed_city row p) (placed_city row q)) kept
  far_place floor f p q s kept lp lq wider below =
      let e = gap_is n place_of (λ v. v.x) _ _ (o.cities.each p nowhere lp) (o.cities.each q nowhere lq) in
      let rises = f.rises _ _ (rw e at wider) (f.wide (placed_city row p) (placed_city row q)) in
      omega (arith, below, rises, f.bounds (placed_city row p) (placed_city row q))

  pub IsSwept-none : (p k : ℕ) → p < length row → IsSwept dist row p p (p + 1) k (replicate k empty_slot)
  IsSwept-none p k l =
      let count : 0 ≡ p + 1 - p - 1 = omega arith in
      record {
        low_end = omega arith;
        high_end = omega arith;
        within = omega arith;
        keeps =
            KeepsFirst-count dist (placed_city row p) k _ _ _ _ count
            (KeepsFirst-none dist (placed_city row p) k (IsAt row (Window p (p + 1) p))
            (λ b s. let w = s.2 in let low : p ≤ s.0 = w.0 in let high : s.0 < p + 1 = w.1 in w.2 (omega arith)));
      }

  module _ {p low high k : ℕ} {kept : List Candidate} (h : IsSwept dist row p low high k kept) where
    pub swept_climbing : Climbing rank kept
    swept_climbing = climbing (placed_city row p) k _ _ kept h.keeps

    pub swept_down_near : 0 < low →
        IsSwept dist row p (low - 1) high k
        (take k (insert_by rank (candidate dist (placed_city row p) (placed_city row (low - 1))) kept))
    swept_down_near l =
        record {
          low_end = omega (arith, h.low_end);
          high_end = h.high_end;
          within = h.within;
          keeps =
              with_place o.cities limit few (placed_city row p) k (high - low - 1) (high - (low - 1) - 1) (low - 1)
              (Window low high p) (Window (low - 1) high p) kept h.keeps (omega (arith, h.low_end, h.high_end))
              (omega (arith, h.low_end, h.high_end, h.within)) (omega arith) (omega arith)
              (omega (arith, h.low_end, h.high_end)) (omega arith);
        }

    pub swept_up_near : high < length row →
        IsSwept dist row p low (high + 1) k
        (take k (insert_by rank (candidate dist (placed_city row p) (placed_city row high)) kept))
    swept_up_near l =
        record {
          low_end = h.low_end;
          high_end = omega (arith, h.high_end);
          within = omega arith;
          keeps =
              with_place o.cities limit few (placed_city row p) k (high - low - 1) (high + 1 - low - 1) high
              (Window low high p) (Window low (high + 1) p) kept h.keeps (omega (arith, h.low_end, h.high_end)) l
              (omega arith) (omega arith) (omega (arith, h.low_end, h.high_end)) (omega arith);
        }

    pub swept_down_far : (floor : ℕ → ℕ) → IsFloor dist place_of floor → 0 < low → 1 ≤ k →
        IsBelow (floor (unsigned_abs ((point_at row p).x -ℤ (point_at row (low - 1)).x))) kept →
        IsSwept dist row p 0 high k kept
    swept_down_far floor f l one far =
        let lp : p < length row = omega (arith, h.within, h.high_end) in
        record {
          low_end = omega arith;
          high_end = h.high_end;
          within = h.within;
          keeps = far_below (placed_city row p) k p high low kept h.within h.low_end h.high_end one
              (λ q lq. far_place floor f p q _ kept lp (omega (arith, h.low_end))
              (omega (
                arith,
                ints,
                o.rising q (low - 1) (omega arith) (omega (arith, h.low_end)),
                o.rising (low - 1) p (omega (arith, h.low_end)) lp,
              )) far)
              h.keeps;
        }

    pub swept_up_far : (floor : ℕ → ℕ) → IsFloor dist place_of floor → high < length row → 1 ≤ k →
        IsBelow (floor (unsigned_abs ((point_at row p).x -ℤ (point_at row high).x))) kept →
        IsSwept dist row p low (length row) k kept
    swept_up_far floor f l one far =
        let lp : p < length row = omega (arith, h.within, h.high_end) in
        let rest : high + (length row - high) ≡ length row = omega arith in
        record {
          low_end = h.low_end;
          high_end = lp;
          within = omega arith;
          keeps = far_above (placed_city row p) k p low (length row - high) high kept rest h.low_end h.high_end one
              (λ q hq in'. far_place floor f p q _ kept lp in'
              (omega (arith, ints, o.rising p high (omega (arith, h.high_end)) l, o.rising high q hq in')) far)
              h.keeps;
        }

  pub IsNear-from_swept : {p k : ℕ} {kept : List Candidate} → k < n → IsSwept dist row p 0 (length row) k kept →
      IsNear dist n k (placed_city row p) (cities_kept kept)
  IsNear-from_swept {p} {k} {kept} kn h =
      near_place o.cities dist p k (length row - 0 - 1) (Window 0 (length row) p) kept few
      (omega (arith, h.high_end)) h.keeps (omega (arith, o.cities.count)) (λ q l ne. (omega arith, l, ne)) (λ q w. w.2)
