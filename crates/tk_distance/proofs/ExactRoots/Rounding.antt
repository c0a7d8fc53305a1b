-- A number is the rounded root of a square where it lies between its two neighbours.
use Rattle.std.proofs.Common.{◌≡◌, ℕ, ◌+◌, ◌-◌, ◌*◌, ◌<◌, ◌≤◌, ◌/◌, ◌↔◌, subst, refl, inl, inr, arith}
use Rattle.std.proofs.lemmas.Bool.{cases_lt}
use Rattle.std.proofs.lemmas.Nat.{mul-le}
use Rattle.std.proofs.Math.Nat.{lt_of_not-le}
use Rattle.tk_distance.proofs.ExactRoots.RootLemmas.{from_not_lt}
use Rattle.tk_problem.specs.Places.{scale}
use Rattle.tk_distance.specs.Distance.{IsGreatest, RootReaches, Reaches, square_sum}

-- ---- squares in units of 10^-18

-- a number above d is too great; o is its double less one
too_great : (square d j o : ℕ) → square < (d * scale + 500000000) * (d * scale + 500000000)
    → o ≡ 2 * d + 1 + 2 * j → o * o * (scale * scale) ≤ 4 * square → ⊥
too_great square d j o high is r =
    let P : ℕ → Type 0 = λ x. x * x * (scale * scale) ≤ 4 * square in
    let s : P (2 * d + 1 + 2 * j) = subst P is r in
    omega arith

reaches_at : (square k o : ℕ) → (k * scale + 500000000) * (k * scale + 500000000) ≤ square
    → 2 * k + 1 ≡ o → o * o * (scale * scale) ≤ 4 * square
reaches_at square k o low is =
    let P : ℕ → Type 0 = λ x. x * x * (scale * scale) ≤ 4 * square in
    let s : P (2 * k + 1) = omega arith in
    subst P is s

reaches_above : (square d m : ℕ) → 1 ≤ d → m ≡ d * scale - 500000000 → m * m ≤ square → RootReaches square d
reaches_above square d m some is low =
    let m_is : m ≡ (d - 1) * scale + 500000000 = omega arith in
    reaches_at square (d - 1) (2 * d - 1) (subst (λ (x : ℕ). x * x ≤ square) m_is low) (omega arith)

pub nearest_between : (square d : ℕ) → (d * scale - 500000000) * (d * scale - 500000000) ≤ square
    → square < (d * scale + 500000000) * (d * scale + 500000000) → IsGreatest (RootReaches square) d
nearest_between square d low high = record {
  holds = λ some. reaches_above square d (d * scale - 500000000) some refl low;
  greatest = λ e one r. from_not_lt d e (λ lt.
      too_great square d (e - (d + 1)) (2 * e - 1) high (omega arith) r);
}

-- the rounded root is below a number just where the square is below that of the number less 1/2
pub fine_root_below : (square d t : ℕ) → IsGreatest (RootReaches square) d
    → ((square < (t * scale - 500000000) * (t * scale - 500000000)) ↔ (d < t))
fine_root_below square d t is = (below, within)
  where
    below : square < (t * scale - 500000000) * (t * scale - 500000000) → d < t
    below low = lt_of_not-le (λ le. elim (cases_lt 0 t) [
      | inl some ↦
          let m : t * scale - 500000000 ≡ (t - 1) * scale + 500000000 = omega arith in
          let high = subst (λ (x : ℕ). square < x * x) m low in
          too_great square (t - 1) (d - t) (2 * d - 1) high (omega arith) (is.holds (omega arith))
      | inr none ↦
          let m : t * scale - 500000000 ≡ 0 = omega arith in
          let high = subst (λ (x : ℕ). square < x * x) m low in
          omega (arith, high)
    ])

    within : d < t → square < (t * scale - 500000000) * (t * scale - 500000000)
    within lt = lt_of_not-le (λ high.
        let least = is.greatest t (omega arith) (reaches_above square t _ (omega arith) refl high) in
        omega (arith, lt, least))

-- the rounded root from the root
pub nearest_from_root : (square r d : ℕ) → r * r ≤ square → square < (r + 1) * (r + 1)
    → d ≡ (r / 500000000 + 1) / 2 → IsGreatest (RootReaches square) d
nearest_from_root square r d low high is =
    let a : d * scale - 500000000 ≤ r = omega arith in
    let b : r + 1 ≤ d * scale + 500000000 = omega arith in
    let la = mul-le (d * scale - 500000000) (d * scale - 500000000) r r a a in
    let lb = mul-le (r + 1) (r + 1) (d * scale + 500000000) (d * scale + 500000000) b b in
    nearest_between square d (omega (arith, la)) (omega (arith, lb))

-- ---- whole squares

too_great_whole : (n d j o : ℕ) → n ≤ d * d + d → o ≡ 2 * d + 1 + 2 * j
    → o * o * (scale * scale) ≤ 4 * (n * (scale * scale)) → ⊥
too_great_whole n d j o high is r =
    let P : ℕ → Type 0 = λ x. x * x * (scale * scale) ≤ 4 * (n * (scale * scale)) in
    let s : P (2 * d + 1 + 2 * j) = subst P is r in
    omega arith

reaches_whole : (n k o : ℕ) → (k + 1) * (k + 1) < n + (k + 1) → 2 * k + 1 ≡ o
    → o * o * (scale * scale) ≤ 4 * (n * (scale * scale))
reaches_whole n k o low is =
    let P : ℕ → Type 0 = λ x. x * x * (scale * scale) ≤ 4 * (n * (scale * scale)) in
    let s : P (2 * k + 1) = omega arith in
    subst P is s

pub nearest_whole : (n d : ℕ) → n ≤ d * d + d → (1 ≤ d → d * d < n + d)
    → IsGreatest (RootReaches (n * (scale * scale))) d
nearest_whole n d high low = record {
  holds = λ some.
      let is : d ≡ d - 1 + 1 = omega arith in
      let P : ℕ → Type 0 = λ x. x * x < n + x in
      reaches_whole n (d - 1) (2 * d - 1) (subst P is (low some)) (omega arith);
  greatest = λ e one r. from_not_lt d e (λ lt.
      too_great_whole n d (e - (d + 1)) (2 * e - 1) high (omega arith) r);
}

-- the rounded root is below a number from 1 on just where the square is below that of the number less 1/2
pub root_below : (n d t : ℕ) → 1 ≤ t → IsGreatest (RootReaches (n * (scale * scale))) d → ((n + t ≤ t * t) ↔ (d < t))
root_below n d t some is = (below, within)
  where
    below : n + t ≤ t * t → d < t
    below low = lt_of_not-le (λ le. too_great_whole n (t - 1) (d - t) (2 * d - 1) (under (t - 1) (omega arith) low)
        (omega arith) (is.holds (omega arith)))
      where
        under : (k : ℕ) → t ≡ k + 1 → n + t ≤ t * t → n ≤ k * k + k
        under k is low = let P : ℕ → Type 0 = λ x. n + x ≤ x * x in let s : P (k + 1) = subst P is low in
            omega (arith, s)

    within : d < t → n + t ≤ t * t
    within lt = from_not_lt (t * t) (n + t) (λ more.
        omega (arith, lt, is.greatest t some (reaches (t - 1) (omega arith) more)))
      where
        reaches : (k : ℕ) → t ≡ k + 1 → t * t < n + t → RootReaches (n * (scale * scale)) t
        reaches k is more = let P : ℕ → Type 0 = λ x. x * x < n + x in
            reaches_whole n k (2 * t - 1) (subst P is more) (omega (arith, is))

-- ---- along an axis

squares-le : (a b : ℕ) → a * a ≤ b * b → a ≤ b
squares-le a b h = from_not_lt b a (λ lt.
    let more = mul-le (b + 1) (b + 1) a a (omega arith) (omega arith) in omega (arith, more, h))

root_reaches : (x o s : ℕ) → s ≡ o * scale → s ≤ 2 * x → o * o * (scale * scale) ≤ 4 * square_sum x 0
root_reaches x o s is le =
    let more = mul-le (o * scale) (o * scale) (2 * x) (2 * x) (omega arith) (omega arith) in
    omega (arith, more)

reaches_root : (x o : ℕ) → o * o * (scale * scale) ≤ 4 * square_sum x 0 → o * scale ≤ 2 * x
reaches_root x o h = squares-le (o * scale) (2 * x) (omega (arith, h))

pub nearest_along : (x d : ℕ) → IsGreatest (Reaches x) d → IsGreatest (RootReaches (square_sum x 0)) d
nearest_along x d is = record {
  holds = λ some. root_reaches x (2 * d - 1) ((2 * d - 1) * scale) refl (is.holds some);
  greatest = λ e one h. is.greatest e one (reaches_root x (2 * e - 1) h);
}

-- ---- lengths in units of 10^-9

-- twice a length lies between the odd numbers beside twice a number
pub nearest_length : (length d : ℕ) → (2 * d - 1) * scale ≤ 2 * length → 2 * length < (2 * d + 1) * scale →
    IsGreatest (Reaches length) d
nearest_length length d low high = record {
  holds = λ some. low;
  greatest = λ e one r. omega arith;
}
