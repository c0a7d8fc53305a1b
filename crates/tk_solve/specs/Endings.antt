-- How steps end that an observer can stop: it is asked before each step but the first, and its first no ends them.
--     question asked t answer      the question before step t, counted from 0, as events
--     EndsAfter asked n t events      t of n steps were made, and then these events
use Rattle.std.specs.Prelude.{ℕ, zero, suc, ◌<◌, ◌≤◌, Bool, false, List, [], ◌∷◌}

-- the question before step t, counted from 0, with its answer; the first step is made without a question
abbrev pub question : {E : Type 0} → (Bool → E) → ℕ → Bool → List E
question asked zero answer = []
question asked (suc t) answer = asked answer ∷ []

-- t of n steps were made: all of them, or at least one, and then the observer said no
pub data EndsAfter {E : Type 0} (asked : Bool → E) (n : ℕ) : ℕ → List E → Type 0 where
  whole : EndsAfter asked n n []
  stopped : {t : ℕ} → 1 ≤ t → t < n → EndsAfter asked n t (asked false ∷ [])
