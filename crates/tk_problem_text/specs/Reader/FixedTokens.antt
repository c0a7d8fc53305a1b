-- The state of a reader in a section with a fixed number of tokens, and how it handles one of them.
use Rattle.std.specs.Prelude.{◌≡◌, ◌<◌, ℕ, suc, ◌==◌, List, [], ◌∷◌, ◌++◌, length, Some, None, if◌then◌else◌, Result}
use Rattle.std.specs.Prelude.{IfOk, IfErr}
use Rattle.tk_words.specs.declared.fault.TextKind.{TextKind}
use Rattle.tk_words.specs.declared.keyword.Keyword.{Keyword}
use Rattle.tk_lines.specs.declared.handler.Taken.{Taken}
use Rattle.tk_lines.specs.declared.handler.Taken.TheVariants as takens
use Rattle.tk_words.specs.Lex.{Token}
use Rattle.tk_lines.specs.Pieces.{Piece, After, Fault, Format, first_at, or_else}
use Rattle.tk_lines.specs.Reader.Handlers.{IsReportedWord, whole}
use Rattle.tk_problem_text.specs.Sections.FixedSections.{TokenTests, fixed_end, fixed_extent, tokens_stop}

-- the effect of a token after these tokens
abbrev pub fixed_taken : ℕ → List Token → Taken
fixed_taken count before = if suc (length before) == count then takens.Last else takens.More

-- a section with a fixed number of tokens, whose word has no fault
pub record IsFixed {V : Type 0} (f : Format V) (before : List Piece) (word : Keyword) (n : ℕ) (tests : TokenTests)
    (count : ℕ) : Type 0 where
  pub extent : (toks : List Token) → f.extent before word toks ≡ fixed_extent count toks
  pub section : (toks : List Token) (after : After) →
      f.section before word n toks after ≡ or_else (tokens_stop tests [] toks) (fixed_end after)

-- these tokens of the section have no fault, and more are to come
pub record HasTokens {V : Type 0} (f : Format V) (before : List Piece) (word : Keyword) (n : ℕ) (tests : TokenTests)
    (count : ℕ) (toks : List Token) : Type 0 where
  pub fixed : IsFixed f before word n tests count
  pub good : tokens_stop tests [] toks ≡ None
  pub fewer : length toks < count

-- a token after these is taken: it has no fault, and it is stored
abbrev pub TakesFixed : {S : Type 0} → (S → List Token → Type 0) → TokenTests → ℕ → List ℕ → S → S →
    Result Taken TextKind → Type 0
TakesFixed has tests count token old new result =
    (toks : List Token) (line : ℕ) → has old toks → length toks < count
    → IfOk result (λ taken. (first_at line (tests toks (whole token line)) ≡ None)
    × has new (toks ++ whole token line ∷ []) × (taken ≡ fixed_taken count toks))

abbrev pub RefusesFixed : {S : Type 0} → (S → List Token → Type 0) → TokenTests → List ℕ → S →
    Result Taken TextKind → Type 0
RefusesFixed has tests token old result =
    (toks : List Token) (line : ℕ) → has old toks
    → IfErr result (IsReportedWord (λ k. first_at line (tests toks (whole token line)) ≡ Some (Fault line k)))
