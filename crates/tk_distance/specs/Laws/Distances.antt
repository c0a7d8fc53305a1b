-- The distance function returns the number that the definition describes, and no other number satisfies the definition.
use Rattle.std.proofs.Common.{◌≡◌, ℕ, zero, suc, ◌+◌, ◌-◌, ◌*◌, ◌≤◌, sym, ap, add_comm, inl, inr, arith, max}
use Rattle.std.proofs.lemmas.Bool.{leb-true, le-leb, cases_lt}
use Rattle.std.specs.Bool.{Decides}
use Rattle.std.specs.Prelude.{nat_le}
use Rattle.std.proofs.lemmas.Nat.{mul-le}
use Rattle.tk_problem.specs.Places.{scale}
use Rattle.tk_problem.specs.declared.limits.TheConstants.{DISTANCE_LIMIT}
use Rattle.tk_problem.specs.declared.weights.PlaneKind.{PlaneKind}
use Rattle.tk_problem.specs.declared.weights.PlaneKind.TheVariants.{Euc2d, Ceil2d, Man2d, Max2d, Att}
use Rattle.tk_distance.specs.Distance.{IsGreatest, IsLeast, Reaches, RootReaches, Covers, IsDistance, square_sum, reach}
use Rattle.tk_distance.specs.PlaneDistance.{rounded_length, rounded_root, covering_root, distance_at}
use Rattle.tk_distance.specs.Searching.{last_passing-is, first_passing-is}

Decides-nat_le : (a b : ℕ) → Decides (nat_le a b) (a ≤ b)
Decides-nat_le a b = (leb-true a b, le-leb a b)

rounded_length-is : (length : ℕ) → IsGreatest (Reaches length) (rounded_length length)
unfolding rounded_length
rounded_length-is length =
    last_passing-is (Reaches length) _ (λ e. Decides-nat_le _ _) (length + 1) (λ e lt h. omega arith)

rounded_root-is : (square : ℕ) → IsGreatest (RootReaches square) (rounded_root square)
unfolding rounded_root
rounded_root-is square =
    last_passing-is (RootReaches square) _ (λ e. Decides-nat_le _ _) (square + 1)
    (λ e lt h. let more = mul-le 1 (2 * e - 1) (2 * e - 1) (2 * e - 1) (omega arith) (omega arith) in
    omega (arith, more, h))

square-above : (d : ℕ) → d ≤ d * d
square-above zero = omega arith
square-above (suc d) = let more = mul-le 1 (suc d) (suc d) (suc d) (omega arith) (omega arith) in omega (arith, more)

covers_itself : (parts d : ℕ) → 1 ≤ parts → Covers parts d d
covers_itself parts d some =
    let more = mul-le 1 (d * d * (scale * scale)) parts (d * d * (scale * scale)) some (omega arith) in
    omega (arith, more, square-above d)

covering_root-is : (parts square : ℕ) → 1 ≤ parts → IsLeast (Covers parts square) (covering_root parts square)
unfolding covering_root
covering_root-is parts square some =
    first_passing-is (Covers parts square) _ (λ e. Decides-nat_le _ _) 0 square square (omega arith)
    (covers_itself parts square some) (λ e lt h. omega arith)

pub distance_at-is : (kind : PlaneKind) (dx dy : ℕ) → IsDistance kind dx dy (distance_at kind dx dy)
unfolding distance_at
distance_at-is Euc2d dx dy = rounded_root-is (square_sum dx dy)
distance_at-is Ceil2d dx dy = covering_root-is 1 (square_sum dx dy) (omega arith)
distance_at-is Man2d dx dy = rounded_length-is (dx + dy)
distance_at-is Max2d dx dy = rounded_length-is (max dx dy)
distance_at-is Att dx dy = covering_root-is 10 (square_sum dx dy) (omega arith)

-- ---- order, uniqueness and bounds

greatest-rises : (P Q : ℕ → Type 0) (d e : ℕ) → ((k : ℕ) → P k → Q k) → IsGreatest P d → IsGreatest Q e → d ≤ e
greatest-rises P Q zero e more a b = omega arith
greatest-rises P Q (suc d) e more a b = b.greatest (suc d) (omega arith) (more (suc d) (a.holds (omega arith)))

least-rises : (P Q : ℕ → Type 0) (d e : ℕ) → ((k : ℕ) → Q k → P k) → IsLeast P d → IsLeast Q e → d ≤ e
least-rises P Q d e more a b = a.least e (more e b.holds)

square_sum-rises : (dx dy ex ey : ℕ) → dx ≤ ex → dy ≤ ey → square_sum dx dy ≤ square_sum ex ey
square_sum-rises dx dy ex ey x y =
    let a = mul-le dx dx ex ex x x in
    let b = mul-le dy dy ey ey y y in
    omega (arith, a, b)

rises : (kind : PlaneKind) (dx dy ex ey d e : ℕ) → dx ≤ ex → dy ≤ ey → IsDistance kind dx dy d →
    IsDistance kind ex ey e → d ≤ e
rises Euc2d dx dy ex ey d e x y a b =
    let more = square_sum-rises dx dy ex ey x y in
    greatest-rises (RootReaches (square_sum dx dy)) (RootReaches (square_sum ex ey)) d e
    (λ k h. omega (arith, h, more)) a b
rises Ceil2d dx dy ex ey d e x y a b =
    let more = square_sum-rises dx dy ex ey x y in
    least-rises (Covers 1 (square_sum dx dy)) (Covers 1 (square_sum ex ey)) d e (λ k h. omega (arith, h, more)) a b
rises Man2d dx dy ex ey d e x y a b =
    greatest-rises (Reaches (dx + dy)) (Reaches (ex + ey)) d e (λ k h. omega (arith, h)) a b
rises Max2d dx dy ex ey d e x y a b =
    greatest-rises (Reaches (max dx dy)) (Reaches (max ex ey)) d e (λ k h. omega (arith, h)) a b
rises Att dx dy ex ey d e x y a b =
    let more = square_sum-rises dx dy ex ey x y in
    least-rises (Covers 10 (square_sum dx dy)) (Covers 10 (square_sum ex ey)) d e (λ k h. omega (arith, h, more)) a b

pub distance-unique : (kind : PlaneKind) (dx dy d : ℕ) → IsDistance kind dx dy d → d ≡ distance_at kind dx dy
distance-unique kind dx dy d is =
    let at = distance_at-is kind dx dy in
    let low = rises kind dx dy dx dy d (distance_at kind dx dy) (omega arith) (omega arith) is at in
    let high = rises kind dx dy dx dy (distance_at kind dx dy) d (omega arith) (omega arith) at is in
    omega (arith, low, high)

pub distance_at-rises : (kind : PlaneKind) (dx dy ex ey : ℕ) → dx ≤ ex → dy ≤ ey →
    distance_at kind dx dy ≤ distance_at kind ex ey
distance_at-rises kind dx dy ex ey x y =
    rises kind dx dy ex ey _ _ x y (distance_at-is kind dx dy) (distance_at-is kind ex ey)

-- x and y can be swapped
pub distance_at-swap : (kind : PlaneKind) (dx dy : ℕ) → distance_at kind dx dy ≡ distance_at kind dy dx
unfolding distance_at
distance_at-swap Euc2d dx dy = ap rounded_root (add_comm (dx * dx) (dy * dy))
distance_at-swap Ceil2d dx dy = ap (covering_root 1) (add_comm (dx * dx) (dy * dy))
distance_at-swap Man2d dx dy = ap rounded_length (add_comm dx dy)
distance_at-swap Max2d dx dy = let e : max dx dy ≡ max dy dx = omega arith in ap rounded_length e
distance_at-swap Att dx dy = ap (covering_root 10) (add_comm (dx * dx) (dy * dy))

no_root : IsGreatest (RootReaches (square_sum 0 0)) 0
no_root = record {
  holds = λ h. absurd (omega arith);
  greatest = λ e one h. let more = mul-le 1 1 (2 * e - 1) (2 * e - 1) (omega arith) (omega arith) in
      absurd (omega (arith, more, h));
}

-- the distance is 0 if no coordinate differs
nothing : (kind : PlaneKind) → IsDistance kind 0 0 0
nothing Euc2d = no_root
nothing Ceil2d = record { holds = omega arith; least = λ e h. omega arith }
nothing Att = record { holds = omega arith; least = λ e h. omega arith }
nothing _ = record { holds = λ h. absurd (omega arith); greatest = λ e one h. absurd (omega arith) }

pub distance_at-nothing : (kind : PlaneKind) → distance_at kind 0 0 ≡ 0
distance_at-nothing kind = sym (distance-unique kind 0 0 0 (nothing kind))

-- ---- no distance is greater than 4·10^9

square_sum-far : (dx dy : ℕ) → dx ≤ reach → dy ≤ reach →
    square_sum dx dy ≤ 8000000000000000000000000000000000000
square_sum-far dx dy x y = let most = square_sum-rises dx dy reach reach x y in omega (arith, most)

rounded_root-far : (square d : ℕ) → square ≤ 8000000000000000000000000000000000000 → IsGreatest (RootReaches square) d →
    d ≤ DISTANCE_LIMIT
rounded_root-far square d near is = elim (cases_lt DISTANCE_LIMIT d) [
  | inl lt ↦
      let big = mul-le 8000000000 8000000000 (2 * d - 1) (2 * d - 1) (omega arith) (omega arith) in
      let r : RootReaches square d = is.holds (omega arith) in
      absurd (omega (arith, big, r))
  | inr le ↦ le
]

below_sum : (length d : ℕ) → length ≤ 4000000000000000000 → IsGreatest (Reaches length) d → d ≤ DISTANCE_LIMIT
below_sum length d near is = elim (cases_lt DISTANCE_LIMIT d) [
  | inl lt ↦ let r : Reaches length d = is.holds (omega arith) in absurd (omega (arith, r))
  | inr le ↦ le
]

pub limit : (kind : PlaneKind) (dx dy d : ℕ) → dx ≤ reach → dy ≤ reach →
    IsDistance kind dx dy d → d ≤ DISTANCE_LIMIT
limit Euc2d dx dy d x y is = rounded_root-far (square_sum dx dy) d (square_sum-far dx dy x y) is
limit Ceil2d dx dy d x y is = is.least DISTANCE_LIMIT (omega (arith, square_sum-far dx dy x y))
limit Man2d dx dy d x y is = below_sum (dx + dy) d (omega arith) is
limit Max2d dx dy d x y is = below_sum (max dx dy) d (omega arith) is
limit Att dx dy d x y is = is.least DISTANCE_LIMIT (omega (arith, square_sum-far dx dy x y))

pub distance_at-limit : (kind : PlaneKind) (dx dy : ℕ) → dx ≤ reach → dy ≤ reach →
    distance_at kind dx dy ≤ DISTANCE_LIMIT
distance_at-limit kind dx dy x y = limit kind dx dy _ x y (distance_at-is kind dx dy)
