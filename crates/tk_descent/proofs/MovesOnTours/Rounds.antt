-- The members of a tour, and its edges.
use Rattle.std.proofs.Common.{◌≡◌, ℕ, ◌<◌, ◌≤◌, ◌⊎◌, true, List, length, arith, inl, inr}
use Rattle.tk_tour.specs.Tour.{IsTour, IsSizedTour}
use Rattle.tk_tour.proofs.Tours.{HoldsOnce-tour, occurrences-outside, inside_or_not}
use Rattle.tk_distance.specs.Holding.{holds}
use Rattle.tk_descent.proofs.MovesOnTours.Paths.{IsRound}
use Rattle.tk_descent.proofs.MovesOnTours.Steps.{held, counted, distinct_of}

outside : (xs : List ℕ) (c : ℕ) → IsTour (length xs) xs → holds xs c ≡ true → (0 < c → length xs < c) → ⊥
outside xs c h e out = omega (arith, counted xs c e, occurrences-outside (length xs) c xs h out)

in_range : (xs : List ℕ) (c : ℕ) → IsTour (length xs) xs → holds xs c ≡ true → ((0 < c) × (c ≤ length xs))
    ⊎ (0 < c → length xs < c) → (1 ≤ c) × (c ≤ length xs)
in_range xs c h e (inl k) = (omega arith, k.1)
in_range xs c h e (inr out) = absurd (outside xs c h e out)

pub round_of : (C : List ℕ) → IsSizedTour C → IsRound C
round_of C h = record {
  members = λ c. (λ e. in_range C c h.2 e (inside_or_not (length C) c), λ k. held C c (omega (arith, h.2.1 c k.0 k.1)));
  distinct = distinct_of C (HoldsOnce-tour (length C) C h.2);
}
