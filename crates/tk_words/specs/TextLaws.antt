-- Laws of the answers that bytes decide. The functions in `src/laws.rt` of the formats have them as their contracts.
use Rattle.std.specs.Prelude.{◌≡◌, Bool, true, false, ℕ, List, ◌++◌, Option, Some}
use Rattle.std.specs.Option.{IsSome}

-- each text has an answer
abbrev pub HasAnswers : {A : Type 0} → (Bool → List ℕ → Option A) → Type 0
HasAnswers decided = (text : List ℕ) → IsSome (decided true text)

-- a decided answer stays: if bytes have an answer though more may follow, each text that begins with them has it
abbrev pub StaysDecided : {A : Type 0} → (Bool → List ℕ → Option A) → Type 0
StaysDecided {A = A} decided =
    (bs : List ℕ) (a : A) → decided false bs ≡ Some a → (ended : Bool) (more : List ℕ) →
    decided ended (bs ++ more) ≡ Some a
