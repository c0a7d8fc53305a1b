-- One swap of a reversal, in the order and in the array of positions.
use Rattle.std.proofs.Common.{◌≡◌, ◌≢◌, ℕ, ◌+◌, ◌-◌, ◌<◌, ◌≤◌, ◌/◌, ◌⊎◌, ⊎_elim, inl, inr, List, length, set, refl, sym}
use Rattle.std.proofs.Common.{ap, ◌∙◌, arith, get_or}
use Rattle.std.proofs.lemmas.List.{length-set, get_or-set_same, get_or-set_other}
use Rattle.std.proofs.lemmas.Bool.{cases_lt, cases_eq}
use Rattle.tk_tour.specs.Reversal.{begun_at, reversed_places, IsInverse}
use Rattle.tk_tour.proofs.StoredTours.Places.{AtPlace, MirroredTo, MirroredTo-more, MirroredTo-all, begun_at-set}
use Rattle.tk_tour.proofs.StoredTours.Places.{get_or-begun_at, length-begun_at, reversed_places-from}

pub IsInverse-exchange : (order place : List ℕ) (i j x y : ℕ) → IsInverse order place → i < length order →
    j < length order → i ≢ j → x ≡ get_or order i 0 → y ≡ get_or order j 0 →
    IsInverse (set (set order i y) j x) (set (set place (y - 1) i) (x - 1) j)
IsInverse-exchange order place i j x y h li lj ne ex ey =
    let n : ℕ = length order in
    let at_i = h.1 i li in
    let at_j = h.1 j lj in
    let px : get_or place (x - 1) 0 ≡ i = ap (λ v. get_or place (v - 1) 0) ex ∙ at_i.2 in
    let py : get_or place (y - 1) 0 ≡ j = ap (λ v. get_or place (v - 1) 0) ey ∙ at_j.2 in
    let apart : y - 1 ≢ x - 1 = λ e. ne (sym px ∙ ap (λ v. get_or place v 0) (sym e) ∙ py) in
    let lo : length (set (set order i y) j x) ≡ n = length-set (set order i y) j x ∙ length-set order i y in
    let lp1 : length (set place (y - 1) i) ≡ n = length-set place (y - 1) i ∙ h.0 in
    let lp : length (set (set place (y - 1) i) (x - 1) j) ≡ n = length-set (set place (y - 1) i) (x - 1) j ∙ lp1 in
    let P : ℕ → ℕ → Type 0 = λ k z. (0 < z) × (z ≤ length (set (set order i y) j x))
    × (get_or (set (set place (y - 1) i) (x - 1) j) (z - 1) 0 ≡ k) in
    let here_j : P j x = (omega arith, omega arith, get_or-set_same (set place (y - 1) i) (x - 1) j 0 (omega arith)) in
    let here_i : P i y = (
      omega arith,
      omega arith,
      get_or-set_other (set place (y - 1) i) (x - 1) (y - 1) j 0 apart
          ∙ get_or-set_same place (y - 1) i 0 (omega (arith, h.0)),
    ) in
    let value_i : get_or (set (set order i y) j x) i 0 ≡ y =
    get_or-set_other (set order i y) j i x 0 ne ∙ get_or-set_same order i y 0 li in
    let value_j : get_or (set (set order i y) j x) j 0 ≡ x =
    get_or-set_same (set order i y) j x 0 (omega (arith, length-set order i y)) in
    let all : (k : ℕ) → k < n → P k (get_or (set (set order i y) j x) k 0) = λ k lk.
    ⊎_elim
    (λ (e : k ≡ j). rw (e, value_j) here_j)
    (λ (nj : k ≢ j).
    ⊎_elim
    (λ (e : k ≡ i). rw (e, value_i) here_i)
    (λ (ni : k ≢ i).
    let z : ℕ = get_or order k 0 in
    let at_k = h.1 k lk in
    let value_k : get_or (set (set order i y) j x) k 0 ≡ z = get_or-set_other (set order i y) j k x 0 nj
    ∙ get_or-set_other order i k y 0 ni in
    let zx : z - 1 ≢ x - 1 = λ e. ni (sym at_k.2 ∙ ap (λ v. get_or place v 0) e ∙ px) in
    let zy : z - 1 ≢ y - 1 = λ e. nj (sym at_k.2 ∙ ap (λ v. get_or place v 0) e ∙ py) in
    rw value_k (
      at_k.0,
      omega (arith, at_k.1),
      get_or-set_other (set place (y - 1) i) (x - 1) (z - 1) j 0 zx
          ∙ get_or-set_other place (y - 1) (z - 1) i 0 zy ∙ at_k.2,
    ))
    (cases_eq k i))
    (cases_eq k j) in
    (lp ∙ sym lo, λ k lk. all k (omega (arith, lo)))

-- `order` is `start` after t swaps of the reversal of `count` positions from `first` on
pub record Mirroring (n first count t low high : ℕ) (start order : List ℕ) : Type 0 where
  pub lengths : (length start ≡ n) × (length order ≡ n)
  pub low_at : (low < n) × AtPlace n first t low
  pub high_at : (high < n) × AtPlace n first (count - t) high
  pub mirrored : MirroredTo t count (begun_at first start) (begun_at first order)

-- the two positions that are swapped next are distinct and in range
pub record NextTwo (n low high : ℕ) : Type 0 where
  pub low_in : low < n
  pub high_in : high < n
  pub apart : low ≢ high

abbrev pub PlaceCases : ℕ → ℕ → ℕ → ℕ → Type 0
PlaceCases n f i p = ((f + i < n) × (p ≡ f + i)) ⊎ ((n ≤ f + i) × (p + n ≡ f + i))

pub place_cases : (n f i p : ℕ) → AtPlace n f i p → PlaceCases n f i p
place_cases n f i p h =
    ⊎_elim (λ (low : f + i < n). inl (low, h.0 low)) (λ (high : n ≤ f + i). inr (high, h.1 high)) (cases_lt (f + i) n)

pub at_place : (n f i p : ℕ) → PlaceCases n f i p → AtPlace n f i p
at_place n f i p h = omega arith

-- different entries have different positions modulo n
pub places_apart : (n f i j p q : ℕ) → i < n → j < n → AtPlace n f i p → AtPlace n f j q → i ≢ j → p ≢ q
places_apart n f i j p q li lj h k ne = omega (arith, place_cases n f i p h, place_cases n f j q k)

-- the position of the next entry, modulo n
pub at_next : (n f i p q : ℕ) → f < n → i < n → AtPlace n f i p → ((p + 1 ≡ n) × (q ≡ 0))
    ⊎ ((p + 1 < n) × (q ≡ p + 1)) → AtPlace n f (i + 1) q
at_next n f i p q lf li h cases = omega (arith, place_cases n f i p h)

-- the position of the previous entry, modulo n
pub at_previous : (n f i j p q : ℕ) → i ≡ j + 1 → f < n → i ≤ n → AtPlace n f i p → ((p ≡ 0) × (q + 1 ≡ n))
    ⊎ ((0 < p) × (q + 1 ≡ p)) → AtPlace n f j q
at_previous n f i j p q e lf li h cases = omega (arith, place_cases n f i p h)

pub Mirroring-more : (n first count t low high low' high' x y : ℕ) (start order : List ℕ) →
    Mirroring n first count t low high start order → first < n → count ≤ n → t < count / 2 →
    ((high ≡ 0 → high' + 1 ≡ n) × (0 < high → high' + 1 ≡ high)) →
    ((low + 1 ≡ n → low' ≡ 0) × (low + 1 < n → low' ≡ low + 1)) →
    x ≡ get_or order low 0 → y ≡ get_or order high' 0 →
    NextTwo n low high' × Mirroring n first count (t + 1) low' high' start (set (set order low y) high' x)
Mirroring-more n first count t low high low' high' x y start order h lf lc lt eh el ex ey =
    let j : ℕ = count - 1 - t in
    let two : t + t + 1 < count = omega arith in
    let e0 : length order ≡ n = h.lengths.1 in
    let e1 : length start ≡ n = h.lengths.0 in
    let cases : ((high ≡ 0) × (high' + 1 ≡ n)) ⊎ ((0 < high) × (high' + 1 ≡ high)) =
    ⊎_elim (λ (p : 0 < high). inr (p, eh.1 p)) (λ (p : high ≤ 0). let z : high ≡ 0 = omega arith in inl (z, eh.0 z))
    (cases_lt 0 high) in
    let high_in : high' < n = omega (arith, cases, h.high_at.0) in
    let at_low : AtPlace n first t low = h.low_at.1 in
    let at_high : AtPlace n first j high' = at_previous n first (count - t) j high high' (omega arith) lf (omega arith)
    h.high_at.1 cases in
    let apart : low ≢ high' = places_apart n first t j low high' (omega arith) (omega arith) at_low at_high
    (omega arith) in
    let ups : ((low + 1 ≡ n) × (low' ≡ 0)) ⊎ ((low + 1 < n) × (low' ≡ low + 1)) =
    ⊎_elim (λ (p : low + 1 < n). inr (p, el.1 p)) (λ (p : n ≤ low + 1). let z : low + 1 ≡ n =
    omega (arith, h.low_at.0) in inl (z, el.0 z)) (cases_lt (low + 1) n) in
    let low_in : low' < n = omega (arith, ups, h.low_at.0) in
    let ys : List ℕ = begun_at first order in
    let ex' : x ≡ get_or ys t 0 = ex
    ∙ sym (get_or-begun_at order first t low 0 (omega arith) (omega arith) (rw e0 at_low)) in
    let ey' : y ≡ get_or ys j 0 = ey
    ∙ sym (get_or-begun_at order first j high' 0 (omega arith) (omega arith) (rw e0 at_high)) in
    let e2 : length (set order low y) ≡ n = length-set order low y ∙ e0 in
    let moved : begun_at first (set (set order low y) high' x) ≡ set (set ys t y) j x =
    begun_at-set (set order low y) first j high' x (omega arith) (omega arith) (rw e2 at_high)
    ∙ ap (λ v. set v j x)
    (begun_at-set order first t low y (omega arith) (omega arith) (rw e0 at_low)) in
    let more : MirroredTo (t + 1) count (begun_at first start) (set (set ys t y) j x) =
    MirroredTo-more t count (begun_at first start) ys j x y h.mirrored two (omega (arith, length-begun_at first start))
    refl ex' ey' in (
      record { low_in = h.low_at.0; high_in = high_in; apart = apart },
      record {
        lengths = (e1, length-set (set order low y) high' x ∙ e2);
        low_at = (low_in, at_next n first t low low' lf (omega arith) at_low ups);
        high_at = (high_in, omega arith);
        mirrored = rw moved more;
      },
    )

pub Mirroring-all : (n first count t low high : ℕ) (start order : List ℕ) →
    Mirroring n first count t low high start order → first < n → count ≤ n → t ≡ count / 2 →
    order ≡ reversed_places first count start
Mirroring-all n first count t low high start order h lf lc e =
    reversed_places-from first count start order (omega (arith, h.lengths.0)) (h.lengths.1 ∙ sym h.lengths.0)
    (MirroredTo-all t count (begun_at first start) (begun_at first order) h.mirrored (omega arith) (omega arith)
    (omega (arith, length-begun_at first start, h.lengths.0)))

-- like `Mirroring`, with an array of the positions of the cities
pub record Reversing (n first count t low high : ℕ) (start order place : List ℕ) : Type 0 where
  pub mirroring : Mirroring n first count t low high start order
  pub inverse : IsInverse order place

pub Reversing-more : (n first count t low high low' high' x y : ℕ) (start order place : List ℕ) →
    Reversing n first count t low high start order place → first < n → count ≤ n → t < count / 2 →
    ((high ≡ 0 → high' + 1 ≡ n) × (0 < high → high' + 1 ≡ high)) →
    ((low + 1 ≡ n → low' ≡ 0) × (low + 1 < n → low' ≡ low + 1)) →
    x ≡ get_or order low 0 → y ≡ get_or order high' 0 →
    Reversing n first count (t + 1) low' high' start (set (set order low y) high' x)
    (set (set place (y - 1) low) (x - 1) high')
Reversing-more n first count t low high low' high' x y start order place h lf lc lt eh el ex ey =
    let m = h.mirroring in
    let step = Mirroring-more n first count t low high low' high' x y start order m lf lc lt eh el ex ey in
    record {
      mirroring = step.1;
      inverse = IsInverse-exchange order place low high' x y h.inverse (omega (arith, step.0.low_in, m.lengths))
          (omega (arith, step.0.high_in, m.lengths)) step.0.apart ex ey;
    }
