-- Squares and lengths in whole numbers of a unit, and those in ones that round alike.
use Rattle.std.proofs.Common.{◌≡◌, ◌≢◌, ◌⊎◌, ℕ, ◌+◌, ◌-◌, ◌*◌, ◌/◌, ◌<◌, ◌≤◌, ◌↔◌, subst, refl, inl, inr, arith}
use Rattle.std.proofs.Common.{min, max}
use Rattle.std.proofs.lemmas.Bool.{cases_lt}
use Rattle.std.proofs.lemmas.Nat.{mul-le}
use Rattle.std.proofs.Math.Nat.{lt_of_not-le}
use Rattle.std.proofs.lemmas.Grind.{div_ceil_times}
use Rattle.std.specs.Int.{div_ceil}
use Rattle.tk_problem.specs.declared.unit.Unit.{Unit}
use Rattle.tk_problem.specs.declared.unit.Unit.TheVariants.{One, Tenth, Hundredth, Thousandth}
use Rattle.tk_problem.specs.Places.{scale}
use Rattle.tk_problem.specs.Units.{step_of}
use Rattle.tk_distance.specs.Distance.{IsGreatest, IsLeast, Reaches, RootReaches, Covers, square_sum}
use Rattle.tk_distance.proofs.ExactRoots.Rounding.{nearest_length, root_below}

-- ---- the greatest that reaches, and the least that covers

pub greatest_alike : (P Q : ℕ → Type 0) (d : ℕ) → ((e : ℕ) → 1 ≤ e → (P e ↔ Q e)) → IsGreatest Q d → IsGreatest P d
greatest_alike P Q d alike is = record {
  holds = λ some. (alike d some).1 (is.holds some);
  greatest = λ e one h. is.greatest e one ((alike e one).0 h);
}

pub least_alike : (P Q : ℕ → Type 0) (d : ℕ) → ((e : ℕ) → (P e ↔ Q e)) → IsLeast Q d → IsLeast P d
least_alike P Q d alike is = record {
  holds = (alike d).1 is.holds;
  least = λ e h. is.least e ((alike e).0 h);
}

-- ---- squares that round alike

-- the square in ones that rounds like a square in a unit
abbrev pub rounding : Unit → ℕ → ℕ
rounding One square = square
rounding Tenth square = (square + 75) / 100
rounding Hundredth square = (square + 7500) / 10000
rounding Thousandth square = (square + 750000) / 1000000

rounds_at : (unit : Unit) (square k : ℕ) →
    ((2 * k + 1) * (2 * k + 1) * (scale * scale) ≤ 4 * (square * (step_of unit * step_of unit))) ↔
    ((2 * k + 1) * (2 * k + 1) * (scale * scale) ≤ 4 * (rounding unit square * (scale * scale)))
rounds_at One square k = (λ h. h, λ h. h)
rounds_at _ square k = (λ h. omega (arith, h), λ h. omega (arith, h))

rounds_alike : (unit : Unit) (square d : ℕ) → 1 ≤ d
    → (RootReaches (square * (step_of unit * step_of unit)) d ↔ RootReaches (rounding unit square * (scale * scale)) d)
rounds_alike unit square d some = let odd : 2 * d - 1 ≡ 2 * (d - 1) + 1 = omega arith in
    rw odd (rounds_at unit square (d - 1))

pub rounds_by : (u v : Unit) (square : ℕ) → u ≡ v → (d : ℕ) → 1 ≤ d
    → (RootReaches (square * (step_of u * step_of u)) d ↔ RootReaches (rounding v square * (scale * scale)) d)
rounds_by u v square is d some = rw is (rounds_alike v square d some)

-- ---- squares below that of a bound less 1/2

-- d is below a number just where the number is not reached
below_at : (square d b t s : ℕ) → s ≤ 8000000000000000000 → 1 ≤ b → IsGreatest (RootReaches square) d
    → (RootReaches square b ↔ (t * t ≤ s)) → ((s < min t 3000000000 * min t 3000000000) ↔ (d < b))
below_at square d b t s near some is at = (below, within)
  where
    capped : s < min t 3000000000 * min t 3000000000 → s < t * t
    capped h = let more = mul-le (min t 3000000000) (min t 3000000000) t t (omega arith) (omega arith) in
        omega (arith, h, more)

    below : s < min t 3000000000 * min t 3000000000 → d < b
    below h = lt_of_not-le (λ le.
        let far : RootReaches square d = is.holds (omega arith) in
        let less = mul-le (2 * b - 1) (2 * b - 1) (2 * d - 1) (2 * d - 1) (omega arith) (omega arith) in
        let reached : RootReaches square b = omega (arith, far, less) in
        omega (arith, at.0 reached, capped h))

    within : d < b → s < min t 3000000000 * min t 3000000000
    within lt = elim (cases_lt s (t * t)) [
      | inl low ↦ elim (cases_lt 3000000000 t) [
        | inl over ↦ let cap : min t 3000000000 ≡ 3000000000 = omega arith in rw cap (omega arith)
        | inr fits ↦ let same : min t 3000000000 ≡ t = omega arith in rw same low
      ]
      | inr high ↦ absurd (omega (arith, lt, is.greatest b some (at.1 high)))
    ]

module _ (square o : ℕ) where
  tenth_reached : (o * o * (scale * scale) ≤ 4 * (square * (100000000 * 100000000))) ↔ (o * 5 * (o * 5) ≤ square)
  tenth_reached = (λ h. omega (arith, h), λ h. omega (arith, h))

  hundredth_reached : (o * o * (scale * scale) ≤ 4 * (square * (10000000 * 10000000))) ↔ (o * 50 * (o * 50) ≤ square)
  hundredth_reached = (λ h. omega (arith, h), λ h. omega (arith, h))

  thousandth_reached : (o * o * (scale * scale) ≤ 4 * (square * (1000000 * 1000000))) ↔ (o * 500 * (o * 500) ≤ square)
  thousandth_reached = (λ h. omega (arith, h), λ h. omega (arith, h))

none_below : (s d b r : ℕ) → b ≡ 0 → r ≡ 0 → ((s < r) ↔ (d < b))
none_below s d b r none same = (λ h. absurd (omega (arith, h, same)), λ h. absurd (omega (arith, h, none)))

module _ (s d b : ℕ) (near : s ≤ 8000000000000000000) where
  one_below : IsGreatest (RootReaches (s * (scale * scale))) d → ((s < b * b - b + min b 1) ↔ (d < b))
  one_below is = elim (cases_lt 0 b) [
    | inl some ↦
        let test = root_below s d b (omega (arith, some)) is in
        let more = mul-le 1 b b b (omega (arith, some)) (omega arith) in
        (λ h. test.0 (omega (arith, h, more, some)), λ h. omega (arith, test.1 h, more, some))
    | inr none ↦ let no : b ≡ 0 = omega (arith, none) in none_below s d b (b * b - b + min b 1) no (rw no refl)
  ]

  halves : (unit : Unit) (half : ℕ)
      → (1 ≤ b → (RootReaches (s * (step_of unit * step_of unit)) b ↔ ((2 * b - 1) * half * ((2 * b - 1) * half) ≤ s)))
      → (b ≡ 0 → (2 * b - 1) * half ≡ 0) → IsGreatest (RootReaches (s * (step_of unit * step_of unit))) d
      → ((s < min ((2 * b - 1) * half) 3000000000 * min ((2 * b - 1) * half) 3000000000) ↔ (d < b))
  halves unit half at nothing is = elim (cases_lt 0 b) [
    | inl some ↦ below_at (s * (step_of unit * step_of unit)) d b ((2 * b - 1) * half) s near (omega (arith, some)) is
        (at (omega (arith, some)))
    | inr none ↦
        let no : b ≡ 0 = omega (arith, none) in
        let zero_is = nothing no in
        none_below s d b (min ((2 * b - 1) * half) 3000000000 * min ((2 * b - 1) * half) 3000000000) no
        (rw zero_is refl)
  ]

-- the code's square at a bound
abbrev pub square_below : Unit → ℕ → ℕ
square_below One b = b * b - b + min b 1
square_below Tenth b = min ((2 * b - 1) * 5) 3000000000 * min ((2 * b - 1) * 5) 3000000000
square_below Hundredth b = min ((2 * b - 1) * 50) 3000000000 * min ((2 * b - 1) * 50) 3000000000
square_below Thousandth b = min ((2 * b - 1) * 500) 3000000000 * min ((2 * b - 1) * 500) 3000000000

below_alike : (unit : Unit) (s d b : ℕ) → s ≤ 8000000000000000000
    → IsGreatest (RootReaches (s * (step_of unit * step_of unit))) d → ((s < square_below unit b) ↔ (d < b))
below_alike One s d b near is = one_below s d b near is
below_alike Tenth s d b near is =
    halves s d b near Tenth 5 (λ some. tenth_reached s (2 * b - 1)) (λ none. omega (arith, none)) is
below_alike Hundredth s d b near is =
    halves s d b near Hundredth 50 (λ some. hundredth_reached s (2 * b - 1)) (λ none. omega (arith, none)) is
below_alike Thousandth s d b near is =
    halves s d b near Thousandth 500 (λ some. thousandth_reached s (2 * b - 1)) (λ none. omega (arith, none)) is

pub below_by : (u v : Unit) (s d b r : ℕ) → u ≡ v → r ≡ square_below v b → s ≤ 8000000000000000000
    → IsGreatest (RootReaches (s * (step_of u * step_of u))) d → ((s < r) ↔ (d < b))
below_by u v s d b r same is near greatest = rw is (below_alike v s d b near (rw same at greatest))

-- from how many make 1/2 of a unit that is a part of 1
pub below_half : (u : Unit) (half s d b r : ℕ) → (u ≢ One → 2 * half * step_of u ≡ scale) → u ≢ One
    → r ≡ min ((2 * b - 1) * half) 3000000000 * min ((2 * b - 1) * half) 3000000000 → s ≤ 8000000000000000000
    → IsGreatest (RootReaches (s * (step_of u * step_of u))) d → ((s < r) ↔ (d < b))
below_half One half s d b r make part same near greatest = absurd (part refl)
below_half Tenth half s d b r make part same near greatest =
    let five : half ≡ 5 = omega (arith, make part) in rw (same, five) (below_alike Tenth s d b near greatest)
below_half Hundredth half s d b r make part same near greatest =
    let fifty : half ≡ 50 = omega (arith, make part) in rw (same, fifty) (below_alike Hundredth s d b near greatest)
below_half Thousandth half s d b r make part same near greatest =
    let many : half ≡ 500 = omega (arith, make part) in rw (same, many) (below_alike Thousandth s d b near greatest)

-- a part of 1 is not 1
pub not_one : (unit : Unit) → (unit ≡ Tenth) ⊎ ((unit ≡ Hundredth) ⊎ (unit ≡ Thousandth)) → unit ≢ One
not_one unit (inl is) one = absurd cc
not_one unit (inr (inl is)) one = absurd cc
not_one unit (inr (inr is)) one = absurd cc

-- ---- squares that are covered alike

-- the least square in ones that covers a square in a unit
abbrev pub covering : Unit → ℕ → ℕ
covering One square = square
covering Tenth square = (square + 99) / 100
covering Hundredth square = (square + 9999) / 10000
covering Thousandth square = (square + 999999) / 1000000

covered_alike : (unit : Unit) (square n : ℕ) →
    (square * (step_of unit * step_of unit) ≤ n * (scale * scale)) ↔ (covering unit square ≤ n)
covered_alike One square n = (λ h. omega (arith, h), λ h. omega (arith, h))
covered_alike _ square n = (λ h. omega (arith, h), λ h. omega (arith, h))

pub covers_by : (u v : Unit) (square n : ℕ) → u ≡ v →
    (square * (step_of u * step_of u) ≤ n * (scale * scale)) ↔ (covering v square ≤ n)
covers_by u v square n is = rw is (covered_alike v square n)

-- ---- lengths

-- the length in ones that a length in a unit is rounded to
abbrev pub rounded : Unit → ℕ → ℕ
rounded One length = length
rounded Tenth length = (length + 5) / 10
rounded Hundredth length = (length + 50) / 100
rounded Thousandth length = (length + 500) / 1000

rounded-is : (unit : Unit) (length : ℕ) → IsGreatest (Reaches (length * step_of unit)) (rounded unit length)
rounded-is One length = nearest_length (length * 1000000000) length (omega arith) (omega arith)
rounded-is unit length = nearest_length (length * step_of unit) (rounded unit length) (omega arith) (omega arith)

pub length_by : (u v : Unit) (length : ℕ) → u ≡ v → IsGreatest (Reaches (length * step_of u)) (rounded v length)
length_by u v length is = rw is (rounded-is v length)

-- ---- the distance at whole differences, from the square in ones

pub square-in : (unit : Unit) (x y : ℕ) →
    square_sum x y * (step_of unit * step_of unit) ≡ square_sum (x * step_of unit) (y * step_of unit)
square-in One x y = omega arith
square-in _ x y = omega arith

module _ (unit : Unit) (dx dy square : ℕ) (is : square ≡ square_sum dx dy) where
  in_unit : square * (step_of unit * step_of unit) ≡ square_sum (dx * step_of unit) (dy * step_of unit)
  in_unit = rw is (square-in unit dx dy)

  pub rounded_in : (m d : ℕ)
      → ((e : ℕ) → 1 ≤ e
      → (RootReaches (square * (step_of unit * step_of unit)) e ↔ RootReaches (m * (scale * scale)) e))
      → IsGreatest (RootReaches (m * (scale * scale))) d →
      IsGreatest (RootReaches (square_sum (dx * step_of unit) (dy * step_of unit))) d
  rounded_in m d alike nearest =
      subst (λ (s : ℕ). IsGreatest (RootReaches s) d) in_unit (greatest_alike _ _ d alike nearest)

  pub covered_in : (m d : ℕ) → ((n : ℕ) → (square * (step_of unit * step_of unit) ≤ n * (scale * scale)) ↔ (m ≤ n))
      → IsLeast (Covers 1 (m * (scale * scale))) d →
      IsLeast (Covers 1 (square_sum (dx * step_of unit) (dy * step_of unit))) d
  covered_in m d alike least =
      subst (λ (s : ℕ). IsLeast (Covers 1 s) d) in_unit
      (least_alike (Covers 1 (square * (step_of unit * step_of unit))) _ d
      (λ e. (
        λ h. let low = (alike (e * e)).0 (omega (arith, h)) in
            omega (arith, low),
        λ h. let high = (alike (e * e)).1 (omega (arith, h)) in omega (arith, high),
      )) least)

  pub tenth_covered_in : (m d : ℕ)
      → ((n : ℕ) → (square * (step_of unit * step_of unit) ≤ n * (scale * scale)) ↔ (m ≤ n))
      → IsLeast (Covers 1 (div_ceil m 10 * (scale * scale))) d →
      IsLeast (Covers 10 (square_sum (dx * step_of unit) (dy * step_of unit))) d
  tenth_covered_in m d alike least = let t = div_ceil_times m 10 (omega arith) in
      subst (λ (s : ℕ). IsLeast (Covers 10 s) d) in_unit
      (least_alike (Covers 10 (square * (step_of unit * step_of unit))) _ d
      (λ e. (
        λ h. let low = (alike (10 * (e * e))).0 (omega (arith, h)) in omega (arith, low, t.0, t.1),
        λ h. let high =
            (alike (10 * (e * e))).1 (omega (arith, h, t.0, t.1)) in omega (arith, high),
      )) least)

pub sum-in : (unit : Unit) (x y : ℕ) → (x + y) * step_of unit ≡ x * step_of unit + y * step_of unit
sum-in One x y = omega arith
sum-in _ x y = omega arith

pub max-in : (unit : Unit) (x y : ℕ) → max x y * step_of unit ≡ max (x * step_of unit) (y * step_of unit)
max-in One x y = omega arith
max-in _ x y = omega arith
