-- How a header is stored.
use Rattle.std.specs.Prelude.{◌≡◌, ℕ, Bool, List, ◌∷◌, Option, Some, None, Result, IfOk, IfErr, is_some}
use Rattle.std.specs.Prelude.{option_and_then}
use Rattle.tk_words.specs.declared.keyword.Keyword.{Keyword}
use Rattle.tk_words.specs.declared.fault.TextKind.{TextKind}
use Rattle.tk_words.specs.declared.fault.TextKind.TheVariants as kinds
use Rattle.tk_lines.specs.Pieces.{Piece, has, value_of, first_at, Fault}
use Rattle.tk_lines.specs.Reader.Handlers.{IsReportedWord}

-- the value of a header is stored once the header has been read
pub record KeepsHeader {A : Type 0} (word : Keyword) (of : List ℕ → Option A) (kept : Option A)
    (ps : List Piece) : Type 0 where
  pub came : has word ps ≡ is_some kept
  pub says : option_and_then of (value_of word ps) ≡ kept

-- f and the tests of a header's value give this result: a value without a fault, or the first fault
pub record ValueSays {A : Type 0} (f : List ℕ → Option A) (tests : List (Bool × TextKind)) (v : List ℕ)
    (said : Result A TextKind) : Type 0 where
  pub ok : IfOk said (λ a. (f v ≡ Some a) × ((n : ℕ) → first_at n tests ≡ None))
  pub err : IfErr said (IsReportedWord (λ k. (n : ℕ) → first_at n tests ≡ Some (Fault n k)))

-- the tests of a header that must not be repeated
abbrev pub once : Keyword → List Piece → List (Bool × TextKind) → List (Bool × TextKind)
once word ps tests = (has word ps, kinds.Repeated) ∷ tests
