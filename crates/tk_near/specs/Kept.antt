-- The candidates that a search keeps.
use Rattle.std.specs.Prelude.{ℕ, ◌≤◌, ◌-◌, List, [], ◌∷◌, length, slice_index_or}
use Rattle.std.proofs.Common.{arith}
use Rattle.std.proofs.Math.Bridge.{le_prop}
use Rattle.std.proofs.lemmas.List.Elements.{All-nil}
use mathlib.Core.HLevel.{×_prop, Unit-prop}
use Rattle.tk_near.specs.declared.candidates.Candidate.{Candidate}
use Rattle.tk_near.specs.Keeping.{Climbing, empty_slot, rank}
use Rattle.tk_near.specs.declared.plane.collector.NearestOne.{NearestOne}

-- the last of the candidates kept
abbrev pub last_of : List Candidate → Candidate
last_of kept = slice_index_or kept (length kept - 1) empty_slot

pub Climbing-prop : {X : Type 0} (f : X → ℕ) (xs : List X) → IsProp (Climbing f xs)
Climbing-prop f [] = Unit-prop
Climbing-prop f (x ∷ xs) = ×_prop (hlevel (le_prop)) (Climbing-prop f xs)

pub one_room : (one : NearestOne) → 1 ≤ length (one.best ∷ [])
one_room one = omega arith

pub one_climbing : (one : NearestOne) → Climbing rank (one.best ∷ [])
one_climbing one = (All-nil (λ y. rank one.best ≤ rank y), tt)
