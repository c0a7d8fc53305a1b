-- Explicit weights while they are read.
use Rattle.std.specs.Prelude.{◌≡◌, ◌≤◌, ℕ, IfSome, List, drop, length, slice_get}
use Rattle.tk_problem.specs.declared.cell.Cell.{Cell}
use Rattle.tk_problem.specs.declared.weights.Format.{Format}
use Rattle.tk_problem.specs.WeightOrder.{order, entries, lower_of, weight_of}

-- the cells of the weights that are still to be read, and the weights of all pairs so far
pub record Filling : Type 0 where
  pub places : List Cell
  pub weights : List ℕ

-- the first weights of a format for n cities, which have been read
pub record IsSoFar (s : Filling) (f : Format) (n : ℕ) (ws : List ℕ) : Type 0 where
  pub few : length ws ≤ length (order f n)
  pub places : s.places ≡ drop (length ws) (order f n)
  pub weights : s.weights ≡ lower_of n (entries f n ws)

-- the weight so far of the pair of the next cell
abbrev pub IsWeightSoFar : Filling → Format → ℕ → List ℕ → ℕ → Type 0
IsWeightSoFar s f n ws weight =
    IfSome (slice_get s.places 0) (λ p. weight ≡ weight_of p.row p.column (entries f n ws))
