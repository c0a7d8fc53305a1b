-- The nearest-neighbour tour, one city at a time.
use Rattle.std.proofs.Common.{◌≡◌, ◌≢◌, ℕ, ◌+◌, ◌-◌, ◌<◌, ◌≤◌, ⊎_elim, List, length, refl, sym, ap, ◌∙◌, arith, subst}
use Rattle.std.specs.Prelude.{slice_index}
use Rattle.std.specs.List.{swap}
use Rattle.std.proofs.lemmas.Bool.{cases_eq, cases_lt}
use Rattle.std.proofs.lemmas.List.{get_or_default}
use Rattle.std.proofs.lemmas.List.Edits.{length-swap, swapped_from_swap}
use Rattle.std.proofs.lemmas.List.Sorted.{IsPermutation-swap, Contains-permutation}
use Rattle.tk_distance.specs.Cities.{IsCity}
use Rattle.tk_tour.specs.Tour.{IsTour}
use Rattle.tk_tour.proofs.Tours.{IsTour-from_distinct}
use Rattle.tk_starts.specs.NearestTour.{IsNearestTo, IsNearestTour, IsNearestPath}
use Rattle.tk_near.specs.Keeping.{rank, candidate}
use Rattle.tk_near.proofs.InPlane.DistinctPlaces.{OneEach-swap}
use Rattle.tk_near.proofs.KeptCandidates.{closer_from_rank}

-- what an exchange of two places keeps of a tour
module _ (n : ℕ) (xs : List ℕ) (a b : ℕ) (la : a < length xs) (lb : b < length xs) where
  city_swap : ((i : ℕ) → i < length xs → IsCity n (slice_index xs i)) → (i : ℕ) → i < length xs →
      IsCity n (slice_index (swap xs a b) i)
  city_swap h i li =
      let s = swapped_from_swap xs (swap xs a b) a b 0 la lb refl in
      ⊎_elim (λ p. subst (IsCity n) (sym (ap (slice_index (swap xs a b)) p ∙ s.0)) (h b lb))
      (λ p. ⊎_elim (λ q. subst (IsCity n) (sym (ap (slice_index (swap xs a b)) q ∙ s.1)) (h a la))
      (λ q. subst (IsCity n) (sym (s.2 i p q)) (h i li)) (cases_eq i b)) (cases_eq i a)

  whole_swap : (c : ℕ) → (q : ℕ) × (q < length xs) × (slice_index xs q ≡ c) →
      (q : ℕ) × (q < length xs) × (slice_index (swap xs a b) q ≡ c)
  whole_swap c h =
      let w = Contains-permutation xs (swap xs a b) c (IsPermutation-swap xs (swap xs a b) a b la lb refl)
      (h.0, h.1, get_or_default xs h.0 c 0 h.1 ∙ h.2) in
      let l : w.0 < length (swap xs a b) = w.1 in
      (w.0, omega (arith, l, length-swap xs a b), get_or_default (swap xs a b) w.0 0 c l ∙ w.2)

pub IsNearestTo-more : (dist : ℕ → ℕ → ℕ) (n start j at : ℕ) (xs : List ℕ) → n < 4294967296 → 1 ≤ j →
    IsNearestTo dist n start j xs → j ≤ at → at < length xs →
    ((i : ℕ) → j ≤ i → i < length xs →
    rank (candidate dist (slice_index xs (j - 1)) (slice_index xs at)) ≤ rank
    (candidate dist (slice_index xs (j - 1)) (slice_index xs i))) → IsNearestTo dist n start (j + 1) (swap xs j at)
IsNearestTo-more dist n start j at xs small one h low high least =
    let lj : j < length xs = omega arith in
    let s = swapped_from_swap xs (swap xs j at) j at 0 lj high refl in
    let size : length xs ≡ n = h.count in
    let front : (i : ℕ) → i < j → slice_index (swap xs j at) i ≡ slice_index xs i =
    λ i li. s.2 i (omega arith) (omega arith) in
    record {
      count = length-swap xs j at ∙ h.count;
      first = front 0 one ∙ h.first;
      city = λ i li. city_swap n xs j at lj high (λ r lr. h.city r (omega arith)) i (omega arith);
      apart =
          λ i k li lk e. OneEach-swap (λ v. v) 0 xs j at lj high
          (λ r t lr lt d. h.apart r t (omega arith) (omega arith) d) i k (omega (arith, length-swap xs j at))
          (omega (arith, length-swap xs j at)) e;
      whole = λ b cb.
          let w = h.whole b cb in
          let v = whole_swap n xs j at lj high b (w.0, omega (arith, w.1), w.2) in
          (v.0, omega (arith, v.1), v.2);
      each = λ i li. ⊎_elim
          (λ last.
          let back : i ≡ j - 1 = omega arith in
          let here : slice_index (swap xs j at) i ≡ slice_index xs (j - 1) = front i (omega arith)
          ∙ ap (slice_index xs) back in
          let there : slice_index (swap xs j at) (i + 1) ≡ slice_index xs at =
          ap (slice_index (swap xs j at)) last ∙ s.0 in
          rw (here, there) record {
            member = (
              h.city at (omega arith),
              λ r lr e. let same =
                  h.apart r at (omega arith) (omega arith) (sym (front r (omega arith)) ∙ e) in omega arith,
            );
            before = λ a p ne.
                let w = h.whole a p.0 in
                ⊎_elim (λ before. absurd (p.1 w.0 (omega arith) (front w.0 before ∙ w.2)))
                (λ behind.
                let r = least w.0 behind (omega (arith, w.1)) in
                let e : slice_index xs w.0 ≡ a = w.2 in
                let r' : rank (candidate dist (slice_index xs (j - 1)) (slice_index xs at)) ≤ rank
                (candidate dist (slice_index xs (j - 1)) a) = rw e at r in
                let cat = h.city at (omega arith) in
                closer_from_rank (dist (slice_index xs (j - 1)) (slice_index xs at)) (dist (slice_index xs (j - 1)) a)
                (slice_index xs at) a (omega (arith, cat.1)) (omega (arith, p.0.1))
                (omega (arith, r', ne, cat.1, p.0.1)))
                (cases_lt w.0 j);
          })
          (λ ne.
          let before : i + 1 < j = omega arith in
          let old = h.each i before in
          let here : slice_index (swap xs j at) i ≡ slice_index xs i = front i (omega arith) in
          let there : slice_index (swap xs j at) (i + 1) ≡ slice_index xs (i + 1) = front (i + 1) before in
          rw (here, there) record {
            member = (old.member.0, λ r lr e. old.member.1 r lr (sym (front r (omega arith)) ∙ e));
            before = λ a p ne'. old.before a (p.0, λ r lr e. p.1 r lr (front r (omega arith) ∙ e)) ne';
          })
          (cases_eq (i + 1) j);
    }

-- the start, exchanged with city 1
pub IsNearestTo-start : (dist : ℕ → ℕ → ℕ) (n start : ℕ) (xs : List ℕ) → IsCity n start → length xs ≡ n →
    ((i : ℕ) → i < n → slice_index xs i ≡ i + 1) → IsNearestTo dist n start 1 (swap xs 0 (start - 1))
IsNearestTo-start dist n start xs city size entries =
    let l0 : 0 < length xs = omega (arith, city.0, city.1) in
    let ls : start - 1 < length xs = omega (arith, city.0, city.1) in
    let s = swapped_from_swap xs (swap xs 0 (start - 1)) 0 (start - 1) 0 l0 ls refl in
    let at = entries (start - 1) (omega arith) in
    record {
      count = length-swap xs 0 (start - 1) ∙ size;
      first = s.0 ∙ at ∙ omega (arith, city.0);
      city = λ i li. city_swap n xs 0 (start - 1) l0 ls (λ r lr. let e = entries r (omega arith) in
          (omega arith, omega arith)) i (omega arith);
      apart =
          λ i k li lk e. OneEach-swap (λ v. v) 0 xs 0 (start - 1) l0 ls
          (λ r t lr lt d. let er = entries r (omega arith) in let et = entries t (omega arith) in omega arith) i k
          (omega (arith, length-swap xs 0 (start - 1))) (omega (arith, length-swap xs 0 (start - 1))) e;
      whole = λ b cb.
          let in' : b - 1 < n = omega (arith, cb.0, cb.1) in
          let e = entries (b - 1) in' in
          let v = whole_swap n xs 0 (start - 1) l0 ls b (b - 1, omega arith, e ∙ omega (arith, cb.0)) in
          (v.0, omega (arith, v.1), v.2);
      each = λ i li. absurd (omega arith);
    }

module _ {dist : ℕ → ℕ → ℕ} {n start : ℕ} {xs : List ℕ} (h : IsNearestPath dist n start xs) where
  -- what the definition says of each city of such a list: it is one of 1 to n, and new
  pub path_city : IsCity n start → (k : ℕ) → k < length xs → IsCity n (slice_index xs k)
  path_city city k lk = ⊎_elim
      (λ (e : k ≡ 0). let here : slice_index xs k ≡ start = ap (slice_index xs) e ∙ h.first in rw here city)
      (λ ne.
      let e : k - 1 + 1 ≡ k = omega arith in
      let m = (h.each (k - 1) (omega arith)).member.0 in
      rw e at m)
      (cases_eq k 0)

  pub path_apart : (i j : ℕ) → i < j → j < length xs → slice_index xs i ≢ slice_index xs j
  path_apart i j lt lj =
      let e : j - 1 + 1 ≡ j = omega arith in
      let m = (h.each (j - 1) (omega arith)).member.1 i (omega arith) in
      rw e at m

pub IsNearestTour-from : (dist : ℕ → ℕ → ℕ) (n start : ℕ) (xs : List ℕ) → IsNearestTo dist n start n xs →
    IsNearestTour dist n start xs
IsNearestTour-from dist n start xs h = record { count = h.count; first = h.first; each = h.each }

-- so it is a tour
pub IsTour-nearest : {dist : ℕ → ℕ → ℕ} {n start : ℕ} {xs : List ℕ} → IsCity n start → IsNearestTour dist n start xs →
    IsTour n xs
IsTour-nearest {dist} {n} {start} {xs} city h =
    let path : IsNearestPath dist n start xs =
    record {
      some = omega (arith, h.count, city.0, city.1);
      first = h.first;
      each = λ j l. h.each j (omega (arith, h.count));
    } in
    let in_range : (k : ℕ) → k < length xs → (0 < slice_index xs k) × (slice_index xs k ≤ length xs) =
    λ k lk. let m = path_city path city k lk in (omega (arith, m.0), omega (arith, m.1, h.count)) in
    subst (λ v. IsTour v xs) h.count (IsTour-from_distinct xs in_range (λ i j lt lj. path_apart path i j lt lj))
