-- The first of the cities of a row, by one place that keeps it.
use Rattle.std.proofs.Common.{◌≡◌, ◌≢◌, ℕ, zero, suc, ◌<◌, ◌≤◌, ◌⊎◌, ⊎_elim, inl, inr, List, [], ◌∷◌, length}
use Rattle.std.proofs.Common.{take, refl, sym, ap, ◌∙◌, arith, get_or}
use Rattle.std.specs.Prelude.{All}
use Rattle.tk_problem.specs.declared.point.Point.{Point}
use Rattle.std.proofs.lemmas.Bool.{cases_eq, cases_lt}
use Rattle.tk_problem.specs.declared.limits.TheConstants.{CITY_LIMIT, DISTANCE_LIMIT}
use Rattle.tk_near.specs.declared.candidates.Candidate.{Candidate}
use Rattle.tk_near.specs.declared.plane.city_point.CityPoint.{CityPoint}
use Rattle.tk_near.specs.Near.{IsFirst}
use Rattle.tk_near.specs.Keeping.{rank, candidate, empty_slot}
use Rattle.tk_near.proofs.SortedInsertion.{insert_before, insert_after}
use Rattle.tk_near.proofs.KeptCandidates.{closer_from_rank}
use Rattle.tk_near.specs.CityPoint.{IsPlaced, placed_city, nowhere}
use Rattle.tk_near.specs.Tree.{with_city, with_cities}
use Rattle.tk_near.specs.Unvisited.{IsOtherIn}
use Rattle.tk_near.proofs.InPlane.TreeCandidates.{with_city-same, with_city-other}

-- y is the first of x and the cities of the row but c
pub record IsLeastOf (dist : ℕ → ℕ → ℕ) (c : ℕ) (row : List CityPoint) (x y : Candidate) : Type 0 where
  pub kept : with_cities dist c row (x ∷ []) ≡ y ∷ []
  pub below : rank y ≤ rank x
  pub one : (y ≡ x)
      ⊎ ((q : ℕ) × (q < length row) × (placed_city row q ≢ c) × (y ≡ candidate dist c (placed_city row q)))
  pub least : (q : ℕ) → q < length row → placed_city row q ≢ c → rank y ≤ rank (candidate dist c (placed_city row q))

module _ (dist : ℕ → ℕ → ℕ) (c : ℕ) where
  least_more : (p : CityPoint) (row : List CityPoint) (x z : Candidate) (y : Candidate) →
      with_city dist c p (x ∷ []) ≡ z ∷ [] → rank z ≤ rank x → (p.city ≢ c → rank z ≤ rank (candidate dist c p.city)) →
      (z ≡ x) ⊎ ((p.city ≢ c) × (z ≡ candidate dist c p.city)) → IsLeastOf dist c row z y →
      IsLeastOf dist c (p ∷ row) x y
  least_more p row x z y step below here which h = record {
    kept = ap (with_cities dist c row) step ∙ h.kept;
    below = omega (arith, h.below);
    one = ⊎_elim
        (λ same. ⊎_elim (λ e. inl (same ∙ e)) (λ e. inr (0, omega arith, e.0, same ∙ e.1)) which)
        (λ w. inr (suc w.0, omega (arith, w.1), w.2, w.3))
        h.one;
    least = λ q l ne. at q l ne;
  }
    where
      at : (q : ℕ) → q < length (p ∷ row) → placed_city (p ∷ row) q ≢ c →
          rank y ≤ rank (candidate dist c (placed_city (p ∷ row) q))
      at zero l ne = let z' = here ne in omega (arith, z', h.below)
      at (suc q) l ne = h.least q (omega arith) ne

  pub least_of : (row : List CityPoint) (x : Candidate) → (y : Candidate) × IsLeastOf dist c row x y
  least_of [] x = (x, record { kept = refl; below = omega arith; one = inl refl; least = λ q l. absurd (omega arith) })
  least_of (p ∷ row) x =
      let k : Candidate = candidate dist c p.city in
      ⊎_elim
      (λ same.
      let r = least_of row x in
      let step = with_city-same dist c p (x ∷ []) same in
      (r.0, least_more p row x x r.0 step (omega arith) (λ ne. absurd (ne same)) (inl refl) r.1))
      (λ other.
      let step = with_city-other dist c p (x ∷ []) other in
      ⊎_elim
      (λ first.
      let r = least_of row k in
      let one = step ∙ ap (take 1) (insert_before rank k x [] first) in
      (r.0, least_more p row x k r.0 one (omega arith) (λ ne. omega arith) (inr (other, refl)) r.1))
      (λ behind.
      let r = least_of row x in
      let one = step ∙ ap (take 1) (insert_after rank k x [] behind) in
      (r.0, least_more p row x x r.0 one (omega arith) (λ ne. behind) (inl refl) r.1))
      (cases_lt (rank k) (rank x)))
      (cases_eq p.city c)

module _ (dist : ℕ → ℕ → ℕ) (c : ℕ) (limit : (a b : ℕ) → dist a b ≤ DISTANCE_LIMIT) (row : List CityPoint)
    (small : (q : ℕ) → q < length row → placed_city row q ≤ CITY_LIMIT) (y : Candidate)
    (h : IsLeastOf dist c row empty_slot y) where
  -- where the place stays open, the row has no other city
  pub none_left : y.distance ≡ 4294967295 → (b : ℕ) → IsOtherIn row c b → ⊥
  none_left unseen b s =
      let l = h.least s.0 s.1 (λ e. s.3 (sym s.2 ∙ e)) in
      let near = limit c (placed_city row s.0) in
      let city = small s.0 s.1 in
      omega (arith, l, near, city, unseen)

  -- else it has the first
  pub first_left : y.distance ≢ 4294967295 → IsFirst dist c (IsOtherIn row c) y.city
  first_left there =
      ⊎_elim (λ same. absurd (there (ap (λ (v : Candidate). v.distance) same))) (λ w. found w.0 w.1 w.2 w.3) h.one
    where
      found : (q : ℕ) → q < length row → placed_city row q ≢ c → y ≡ candidate dist c (placed_city row q) →
          IsFirst dist c (IsOtherIn row c) y.city
      found q l ne is =
          let city : y.city ≡ placed_city row q = ap (λ (v : Candidate). v.city) is in
          let far : y.distance ≡ dist c (placed_city row q) = ap (λ (v : Candidate). v.distance) is in
          rw city record {
            member = (q, l, refl, ne);
            before = λ a s other.
                let mine = small q l in
                let theirs = small s.0 s.1 in
                let same : placed_city row s.0 ≡ a = s.2 in
                let least : rank y ≤ rank (candidate dist c a) =
                rw same at (h.least s.0 s.1 (λ e. s.3 (sym s.2 ∙ e))) in
                closer_from_rank (dist c (placed_city row q)) (dist c a) (placed_city row q) a (omega (arith, mine))
                (omega (arith, theirs, same))
                (omega (arith, least, city, far, other, mine, theirs, same));
          }

-- what one place keeps of a row
module _ (dist : ℕ → ℕ → ℕ) (c : ℕ) (limit : (a b : ℕ) → dist a b ≤ DISTANCE_LIMIT) (n : ℕ) (place_of : ℕ → Point)
    (few : n ≤ CITY_LIMIT) (row : List CityPoint) (placed : All (IsPlaced n place_of) row) (kept : List Candidate)
    (seen : kept ≡ with_cities dist c row (empty_slot ∷ [])) where
  small_city : (q : ℕ) → q < length row → placed_city row q ≤ CITY_LIMIT
  small_city q l = let e = placed q nowhere l in omega (arith, e.0.1, few)

  pub none_kept : (d : Candidate) → (get_or kept 0 d).distance ≡ 4294967295 → (b : ℕ) → IsOtherIn row c b → ⊥
  none_kept d unseen =
      let r = least_of dist c row empty_slot in
      let one : kept ≡ r.0 ∷ [] = seen ∙ r.1.kept in
      none_left dist c limit row small_city r.0 r.1 (rw one at unseen)

  pub first_kept : (d : Candidate) → (get_or kept 0 d).distance ≢ 4294967295 →
      IsFirst dist c (IsOtherIn row c) (get_or kept 0 d).city
  first_kept d there =
      let r = least_of dist c row empty_slot in
      let one : kept ≡ r.0 ∷ [] = seen ∙ r.1.kept in
      rw one (first_left dist c limit row small_city r.0 r.1 (rw one at there))
