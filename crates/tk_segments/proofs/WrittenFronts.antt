-- A list that is written to the front of a vector.
use Rattle.std.proofs.Common.{◌≡◌, ℕ, List, ◌++◌, length, take, sym, subst}
use Rattle.std.proofs.lemmas.List.{take_at}

-- if the list fills the whole vector, what is true of the list is true of the vector
pub at_front : {X : Type 0} → (P : List X → Type 0) (n : ℕ) (new rest : List X) → length new ≡ n → P new →
    P (take n (new ++ rest))
at_front P n new rest size holds = subst P (sym (take_at new rest n size)) holds
