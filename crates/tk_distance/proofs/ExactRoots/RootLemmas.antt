-- An integer root lies between its neighbours.
use Rattle.std.proofs.Common.{ℕ, ◌+◌, ◌*◌, ◌<◌, ◌≤◌, arith}
use Rattle.std.proofs.lemmas.Nat.{mul-le}
use Rattle.tk_distance.specs.Roots.{IsRoot}

pub from_not_lt : (a b : ℕ) → (a < b → ⊥) → b ≤ a
from_not_lt a b never = omega (arith, never)

pub root_between : (x r : ℕ) → r * r ≤ x → x < (r + 1) * (r + 1) → IsRoot x r
root_between x r low high = record {
  fits = low;
  greatest = λ s h. from_not_lt r s (λ lt.
      let more = mul-le (r + 1) (r + 1) s s (omega arith) (omega arith) in omega (arith, more));
}
