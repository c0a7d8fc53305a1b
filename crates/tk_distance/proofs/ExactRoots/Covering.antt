-- A number is the least that covers a square where it does and its neighbour does not.
use Rattle.std.proofs.Common.{◌≡◌, ℕ, ◌+◌, ◌-◌, ◌*◌, ◌<◌, ◌≤◌, subst, arith}
use Rattle.std.proofs.lemmas.Nat.{mul-le}
use Rattle.tk_distance.proofs.ExactRoots.RootLemmas.{from_not_lt}
use Rattle.tk_problem.specs.Places.{scale}
use Rattle.tk_distance.specs.Distance.{IsLeast, Covers, square_sum}
use Rattle.tk_distance.specs.Roots.{IsRootUp}

-- d is the least where it covers the square and one less does not, or is 0
pub least_between : (parts square d : ℕ) → square ≤ parts * (d * scale * (d * scale))
    → (1 ≤ d → parts * ((d - 1) * scale * ((d - 1) * scale)) < square) → IsLeast (Covers parts square) d
least_between parts square d reach low = record {
  holds = omega arith;
  least = λ e h. from_not_lt e d (λ lt.
      let below = low (omega arith) in
      let one = mul-le e e (d - 1) (d - 1) (omega arith) (omega arith) in
      let all = mul-le parts (e * e) parts ((d - 1) * (d - 1)) (omega arith) one in
      omega (arith, below, all));
}

-- the least from the root of a quotient, both rounded up
pub least_from_root : (parts square q r d : ℕ) → square ≤ q * parts → q * parts < square + parts → IsRootUp q r
    → r ≤ d * scale → d * scale < r + scale → IsLeast (Covers parts square) d
least_from_root parts square q r d enough near root above below = record {
  holds =
      let a = mul-le r r (d * scale) (d * scale) above above in
      let b = mul-le q parts (d * scale * (d * scale)) parts (let g = root.reaches in omega (arith, a, g))
      (omega arith) in
      omega (arith, b);
  least = λ e h.
      let fits : q ≤ e * scale * (e * scale) = from_not_lt (e * scale * (e * scale)) q (λ lt.
      let more = mul-le (e * scale * (e * scale) + 1) parts q parts (omega arith) (omega arith) in
      omega (arith, more, h)) in
      let r_le : r ≤ e * scale = root.least (e * scale) fits in
      omega arith;
}

pub root_up_small : (q r : ℕ) → q ≤ 8000000000000000000000000000000000000 → IsRootUp q r → r ≤ 3000000000000000000
root_up_small q r small root = root.least 3000000000000000000 (omega arith)

too_small : (n e k d : ℕ) → d ≡ k + 1 → d * d + 1 < n + 2 * d → n ≤ e * e → e ≤ k → ⊥
too_small n e k d is low reach le =
    let P : ℕ → Type 0 = λ x. x * x + 1 < n + 2 * x in
    let at : P (k + 1) = subst P is low in
    let more = mul-le e e k k le le in
    omega (arith, at, more)

-- the same of a whole square
pub least_whole : (n d : ℕ) → n ≤ d * d → (1 ≤ d → d * d + 1 < n + 2 * d) → IsLeast (Covers 1 (n * (scale * scale))) d
least_whole n d reach low = record {
  holds = omega arith;
  least = λ e h. from_not_lt e d (λ lt.
      too_small n e (d - 1) d (omega arith) (low (omega arith)) (omega arith) (omega arith));
}

-- ---- along an axis

pub least_along : (x d : ℕ) → x ≤ d * scale → d * scale < x + scale → IsLeast (Covers 1 (square_sum x 0)) d
least_along x d reach low = least_between 1 (square_sum x 0) d
    (let more = mul-le x x (d * scale) (d * scale) reach reach in omega (arith, more))
    (λ some. let more = mul-le ((d - 1) * scale + 1) ((d - 1) * scale + 1) x x (omega arith) (omega arith) in
    omega (arith, more))
