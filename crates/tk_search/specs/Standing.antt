-- The invariant between two trials, for either store.
use Rattle.std.specs.Prelude.{ℕ}
use Rattle.std.proofs.Props.{props}
use Rattle.tk_near.specs.Near.{NearLists}
use Rattle.tk_search.specs.Searching.{IsSearching}
use Rattle.tk_search.specs.declared.trials.descending.SearchRules.{SearchRules}
use Rattle.tk_search.specs.declared.trials.any_state.AnyState.{AnyState}
use Rattle.tk_search.specs.declared.trials.any_state.AnyState.TheVariants.{Array, Segments}

abbrev pub IsValidState : ℕ → (ℕ → ℕ → ℕ) → NearLists → SearchRules → AnyState → Type 0
IsValidState size distance near rules (Array state) = IsSearching size distance near rules state
IsValidState size distance near rules (Segments state) = IsSearching size distance near rules state

-- the invariant is a proposition, so that a search can have it as a ghost field
pub IsValidState-prop : (size : ℕ) (distance : ℕ → ℕ → ℕ) (near : NearLists) (rules : SearchRules) (stand : AnyState) →
    IsProp (IsValidState size distance near rules stand)
IsValidState-prop size distance near rules (Array state) = Prim.hlevel props
IsValidState-prop size distance near rules (Segments state) = Prim.hlevel props
