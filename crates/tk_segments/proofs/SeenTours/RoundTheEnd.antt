-- A reversal that goes past the end of the sequence, which is rotated first.
use Rattle.std.proofs.Common.{◌≡◌, ℕ, ◌+◌, ◌-◌, ◌<◌, ◌≤◌, ⊎_elim, inl, inr, List, length, sym, ap, ◌∙◌, subst, arith}
use Rattle.std.proofs.lemmas.Bool.{cases_lt}
use Rattle.tk_tour.specs.Reversal.{begun_at, reversed_places}
use Rattle.tk_tour.proofs.StoredTours.Places.{AtPlace, length-begun_at}
use Rattle.tk_tour.proofs.StoredTours.Reversing.{at_place, place_cases}
use Rattle.tk_segments.proofs.SeenTours.Showing.{begun_at-compose, reversed_places-begun}

-- the list begins at b, and its position k is `first` in the sequence
pub turned_inside : (b k first count : ℕ) (seen new : List ℕ) → b < length seen → k < length seen →
    first < length seen → count ≤ length seen → AtPlace (length seen) b k first →
    new ≡ reversed_places first count seen → begun_at b new ≡ reversed_places k count (begun_at b seen)
turned_inside b k first count seen new lb lk lf lc h e =
    ap (begun_at b) e ∙ reversed_places-begun seen b k first count (omega arith) lk lf h lc

places_moved : (n b b' k first e : ℕ) → b < n → k < n → e < n → first < n → e ≤ first → b' < n → AtPlace n e b' b →
    AtPlace n b k first → AtPlace n b' k (first - e)
places_moved n b b' k first e lb lk le lf low lb' g h =
    at_place n b' k (first - e)
    (⊎_elim
    (λ (x : (e + b' < n) × (b ≡ e + b')). ⊎_elim
    (λ (y : (b + k < n) × (first ≡ b + k)). inl (omega (arith, x, y), omega (arith, x, y)))
    (λ (y : (n ≤ b + k) × (first + n ≡ b + k)). inr (omega (arith, x, y, low), omega (arith, x, y, low)))
    (place_cases n b k first h))
    (λ (x : (n ≤ e + b') × (b + n ≡ e + b')). ⊎_elim
    (λ (y : (b + k < n) × (first ≡ b + k)). ⊎_elim
    (λ (z : b' + k < n). inl (z, absurd (omega (arith, x, y, z, low))))
    (λ (z : n ≤ b' + k). inr (z, omega (arith, x, y, z, low)))
    (cases_lt (b' + k) n))
    (λ (y : (n ≤ b + k) × (first + n ≡ b + k)). absurd (omega (arith, x, y, low, lk)))
    (place_cases n b k first h))
    (place_cases n e b' b g))

-- like `turned_inside`, but for a reversal past the end: the sequence is rotated to begin at e, then the list begins at
-- b', and the reversal at first - e
pub turned_round : (b b' k first count e : ℕ) (seen moved new : List ℕ) → b < length seen → b' < length seen →
    k < length seen → first < length seen → count ≤ length seen → e < length seen → e ≤ first →
    AtPlace (length seen) b k first → AtPlace (length seen) e b' b → moved ≡ begun_at e seen →
    new ≡ reversed_places (first - e) count moved →
    begun_at b' new ≡ reversed_places k count (begun_at b seen)
turned_round b b' k first count e seen moved new lb lb' lk lf lc le low h g em en =
    let n : ℕ = length seen in
    let lm : length moved ≡ n = ap length em ∙ length-begun_at e seen in
    let at : AtPlace n b' k (first - e) = places_moved n b b' k first e lb lk le lf low lb' g h in
    let P : ℕ → Type 0 = λ v. AtPlace v b' k (first - e) in
    let same : begun_at b' moved ≡ begun_at b seen = ap (begun_at b') em
    ∙ begun_at-compose seen e b' b (omega arith) lb' lb g in
    turned_inside b' k (first - e) count moved new (omega (arith, lm)) (omega (arith, lm)) (omega (arith, lm))
    (omega (arith, lm)) (subst P (sym lm) at) en
    ∙ ap (reversed_places k count) same
