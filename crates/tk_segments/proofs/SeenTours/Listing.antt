-- The list of a tour in an array that is divided into segments: the positions of its cities, and their neighbours.
use Rattle.std.proofs.Common.{◌≡◌, ℕ, ◌+◌, ◌-◌, ◌<◌, ◌≤◌, ◌⊎◌, inl, inr, ⊎_elim, List, length, sym, ap, ◌∙◌, subst}
use Rattle.std.proofs.Common.{arith, get_or}
use Rattle.std.proofs.lemmas.Bool.{cases_lt}
use Rattle.tk_tour.specs.Places.{IsPlaceFrom}
use Rattle.tk_tour.specs.Reversal.{begun_at}
use Rattle.tk_segments.specs.Segments.{IsAfterPlace}
use Rattle.tk_tour.specs.Tour.{IsTour, next_city, prev_city}
use Rattle.tk_tour.proofs.DistinctCycles.{occurrences-rotation}
use Rattle.tk_tour.proofs.StoredTours.Places.{AtPlace, length-begun_at, get_or-begun_at, IsRotation-begun_at}
use Rattle.tk_tour.proofs.StoredTours.Reversing.{at_place, at_next}
use Rattle.tk_tour.proofs.StoredTours.Flips.{next_city_stored, prev_city_stored}

-- the sequence is a tour, wherever the list begins
pub tour_seen : (n b : ℕ) (seen : List ℕ) → IsTour n (begun_at b seen) → IsTour n seen
tour_seen n b seen tour = (
  sym (length-begun_at b seen) ∙ tour.0,
  λ c low high. sym (occurrences-rotation c (IsRotation-begun_at b seen)) ∙ tour.1 c low high,
)

pub tour_begun : (n b : ℕ) (seen : List ℕ) → IsTour n seen → IsTour n (begun_at b seen)
tour_begun n b seen tour = (
  length-begun_at b seen ∙ tour.0,
  λ c low high. occurrences-rotation c (IsRotation-begun_at b seen) ∙ tour.1 c low high,
)

-- the position k in the list of position v of the sequence
pub record StandsAt (n b v : ℕ) : Type 0 where
  pub k : ℕ
  pub within : k < n
  pub at : AtPlace n b k v
  pub late : b ≤ v → k + b ≡ v
  pub early : v < b → k + b ≡ v + n

pub stands_at : (n b v : ℕ) → b < n → v < n → StandsAt n b v
stands_at n b v lb lv =
    ⊎_elim
    (λ (a : v < b). record {
      k = v + n - b;
      within = omega (arith, a, lb);
      at = at_place n b (v + n - b) v (inr (omega (arith, a, lb), omega (arith, a, lb)));
      late = λ z. absurd (omega (arith, z, a));
      early = λ _. omega (arith, lb);
    })
    (λ (a : b ≤ v). record {
      k = v - b;
      within = omega (arith, lv);
      at = at_place n b (v - b) v (inl (omega (arith, a, lv), omega (arith, a)));
      late = λ _. omega (arith, a);
      early = λ z. absurd (omega (arith, z, a));
    })
    (cases_lt v b)

pub next_begun : (n b v w c x : ℕ) (seen : List ℕ) → IsTour n seen → b < n → v < n → IsAfterPlace n v w →
    get_or seen v 0 ≡ c → x ≡ get_or seen w 0 →
    x ≡ next_city (begun_at b seen) c
next_begun n b v w c x seen tour lb lv h ec ex =
    let list : List ℕ = begun_at b seen in
    let ls : length seen ≡ n = tour.0 in
    let ll : length list ≡ n = length-begun_at b seen ∙ ls in
    let P : ℕ → Type 0 = λ u. IsTour u list in
    let tour' : IsTour (length list) list = subst P (sym ll) (tour_begun n b seen tour) in
    let z = stands_at n b v lb lv in
    let Q : ℕ → Type 0 = λ u. AtPlace u b z.k v in
    let here : get_or list z.k 0 ≡ c =
    get_or-begun_at seen b z.k v 0 (omega (arith, ls, lb)) (omega (arith, ls, z.within)) (subst Q (sym ls) z.at)
    ∙ ec in
    let swapped : ((v + 1 ≡ n) × (w ≡ 0)) ⊎ ((v + 1 < n) × (w ≡ v + 1)) =
    ⊎_elim (λ (a : (v + 1 < n) × (w ≡ v + 1)). inr a) (λ (a : (v + 1 ≡ n) × (w ≡ 0)). inl a) h in
    ⊎_elim
    (λ (a : z.k + 1 < n).
    let at : AtPlace n b (z.k + 1) w = at_next n b z.k v w lb z.within z.at swapped in
    let R : ℕ → Type 0 = λ u. AtPlace u b (z.k + 1) w in
    next_city_stored list z.k x c tour' (omega (arith, ll, z.within)) here
    (inl (
      omega (arith, ll, a),
      ex
          ∙ sym
          (get_or-begun_at seen b (z.k + 1) w 0 (omega (arith, ls, lb)) (omega (arith, ls, a)) (subst R (sym ls) at)),
    )))
    (λ (a : n ≤ z.k + 1).
    let same : w ≡ b =
    ⊎_elim
    (λ (d : (v + 1 < n) × (w ≡ v + 1)). ⊎_elim
    (λ (g : v < b). omega (arith, d, z.early g, a, z.within))
    (λ (g : b ≤ v). absurd (omega (arith, d, z.late g, a)))
    (cases_lt v b))
    (λ (d : (v + 1 ≡ n) × (w ≡ 0)). ⊎_elim
    (λ (g : v < b). absurd (omega (arith, d, g, lb)))
    (λ (g : b ≤ v). omega (arith, d, z.late g, a, z.within))
    (cases_lt v b))
    h in
    let R : ℕ → Type 0 = λ u. AtPlace u b 0 b in
    let at : AtPlace n b 0 b = at_place n b 0 b (inl (omega (arith, lb), omega arith)) in
    next_city_stored list z.k x c tour' (omega (arith, ll, z.within)) here
    (inr (
      omega (arith, ll, a, z.within),
      ex ∙ ap (λ u. get_or seen u 0) same
          ∙ sym (get_or-begun_at seen b 0 b 0 (omega (arith, ls, lb)) (omega (arith, ls, lb)) (subst R (sym ls) at)),
    )))
    (cases_lt (z.k + 1) n)

pub prev_begun : (n b v w c x : ℕ) (seen : List ℕ) → IsTour n seen → b < n → v < n → w < n → IsAfterPlace n v w →
    get_or seen w 0 ≡ c → x ≡ get_or seen v 0 →
    x ≡ prev_city (begun_at b seen) c
prev_begun n b v w c x seen tour lb lv lw h ec ex =
    let list : List ℕ = begun_at b seen in
    let ls : length seen ≡ n = tour.0 in
    let ll : length list ≡ n = length-begun_at b seen ∙ ls in
    let P : ℕ → Type 0 = λ u. IsTour u list in
    let tour' : IsTour (length list) list = subst P (sym ll) (tour_begun n b seen tour) in
    let z = stands_at n b w lb lw in
    let y = stands_at n b v lb lv in
    let Q : ℕ → ℕ → Type 0 = λ u t. AtPlace u b t w in
    let here : get_or list z.k 0 ≡ c =
    get_or-begun_at seen b z.k w 0 (omega (arith, ls, lb)) (omega (arith, ls, z.within))
    (let R : ℕ → Type 0 = λ u. AtPlace u b z.k w in subst R (sym ls) z.at) ∙ ec in
    let there : x ≡ get_or list y.k 0 = ex
    ∙ sym
    (get_or-begun_at seen b y.k v 0 (omega (arith, ls, lb)) (omega (arith, ls, y.within))
    (let R : ℕ → Type 0 = λ u. AtPlace u b y.k v in subst R (sym ls) y.at)) in
    let neighbours : ((0 < z.k) × (y.k ≡ z.k - 1)) ⊎ ((z.k ≡ 0) × (y.k ≡ n - 1)) =
    ⊎_elim
    (λ (d : (v + 1 < n) × (w ≡ v + 1)). ⊎_elim
    (λ (g : v < b). ⊎_elim
    (λ (i : w < b). inl (omega (arith, d, y.early g, z.early i), omega (arith, d, y.early g, z.early i)))
    (λ (i : b ≤ w). inr (omega (arith, d, g, y.early g, z.late i), omega (arith, d, g, y.early g, z.late i)))
    (cases_lt w b))
    (λ (g : b ≤ v). let i = z.late (omega (arith, d, g)) in inl (omega (arith, d, g, i), omega (arith, d, y.late g, i)))
    (cases_lt v b))
    (λ (d : (v + 1 ≡ n) × (w ≡ 0)). ⊎_elim
    (λ (g : v < b). absurd (omega (arith, d, g, lb)))
    (λ (g : b ≤ v). ⊎_elim
    (λ (i : w < b). inl (omega (arith, d, z.early i, lb, i), omega (arith, d, y.late g, z.early i)))
    (λ (i : b ≤ w). inr (omega (arith, d, z.late i, i), omega (arith, d, y.late g, i)))
    (cases_lt w b))
    (cases_lt v b))
    h in
    prev_city_stored list z.k x c tour' (omega (arith, ll, z.within)) here
    (⊎_elim
    (λ (a : (0 < z.k) × (y.k ≡ z.k - 1)). inl (a.0, there ∙ ap (λ u. get_or list u 0) a.1))
    (λ (a : (z.k ≡ 0) × (y.k ≡ n - 1)). inr (a.0, there ∙ ap (λ u. get_or list u 0) (a.1 ∙ ap (λ u. u - 1) (sym ll))))
    neighbours)

-- the city at position v of the sequence is at position k of the list
pub stands_there : (n b k v c : ℕ) (seen : List ℕ) → length seen ≡ n → b < n → k < n → IsPlaceFrom n b k v →
    get_or seen v 0 ≡ c → get_or (begun_at b seen) k 0 ≡ c
stands_there n b k v c seen ls lb lk h e =
    let P : ℕ → Type 0 = λ u. AtPlace u b k v in
    get_or-begun_at seen b k v 0 (omega (arith, ls, lb)) (omega (arith, ls, lk)) (subst P (sym ls) h) ∙ e
