-- The laws of explicit weights.
use Rattle.std.proofs.Common.{◌≡◌, ℕ, List, All, ◌≤◌, get_or, length, min, max, arith, subst, sym, inl, inr}
use Rattle.std.proofs.Math.Nat.{min_comm, max_comm}
use Rattle.std.proofs.lemmas.Bool.{cases_lt}
use Rattle.std.proofs.lemmas.Bool.Decides.{nat_tests}
use Rattle.std.proofs.lemmas.List.{get_or_past}
use Rattle.tk_problem.specs.declared.limits.TheConstants.{CITY_LIMIT, DISTANCE_LIMIT, TABLE_LIMIT}
use Rattle.tk_distance.specs.Weights.{weight_between, triangle_index}

pub weight_between-swap : (ws : List ℕ) (a b : ℕ) → weight_between ws a b ≡ weight_between ws b a
weight_between-swap ws a b = rw (min_comm b a, max_comm b a) (grind (arith, nat_tests))

pub weight_between-same : (ws : List ℕ) (a : ℕ) → weight_between ws a a ≡ 0
weight_between-same ws a = grind (arith, nat_tests)

weight-limit : (ws : List ℕ) → All (λ w. w ≤ DISTANCE_LIMIT) ws → (k : ℕ) → get_or ws k 0 ≤ DISTANCE_LIMIT
weight-limit ws small k = elim (cases_lt k (length ws)) [
  | inl lt ↦ small k 0 lt
  | inr le ↦ subst (λ (w : ℕ). w ≤ DISTANCE_LIMIT) (sym (get_or_past ws k 0 le)) (omega arith)
]

pub weight_between-limit : (ws : List ℕ) → All (λ w. w ≤ DISTANCE_LIMIT) ws → (a b : ℕ) →
    weight_between ws a b ≤ DISTANCE_LIMIT
weight_between-limit ws small a b = let low = weight-limit ws small (triangle_index (min a b) (max a b)) in
    grind (arith, nat_tests)

pub few_cities : (n : ℕ) → n ≤ TABLE_LIMIT → n ≤ CITY_LIMIT
few_cities n few = omega arith
