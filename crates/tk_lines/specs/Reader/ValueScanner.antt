-- The parts of a header's value that are kept.
use Rattle.std.specs.Prelude.{◌≡◌, ◌≤◌, ℕ, List, [], ◌∷◌, ◌++◌, length, take}
use Rattle.tk_lines.specs.declared.value_scanner.Phase.{Phase}
use Rattle.tk_lines.specs.declared.value_scanner.Phase.TheVariants as phases
use Rattle.tk_lines.specs.declared.value_scanner.ValueScanner.{ValueScanner}
use Rattle.tk_words.specs.Lex.{is_blank, behind, after_word, trim_end}
use Rattle.tk_lines.specs.HeaderValue.{body, first_word, not_blank}

-- more bytes only extend the value: it is known whether there is a colon
abbrev pub Settled : List ℕ → Type 0
Settled v = (more : List ℕ) → after_word (v ++ more) ≡ after_word v ++ more

abbrev pub IsEmpty : List ℕ → Type 0
IsEmpty [] = Unit {0}
IsEmpty (b ∷ bs) = ⊥

abbrev pub InPhase : Phase → List ℕ → Type 0
InPhase phases.Before v = behind is_blank v ≡ []
InPhase phases.Behind v = Settled v × (body v ≡ [])
InPhase phases.First v = Settled v × (behind not_blank (body v) ≡ []) × (IsEmpty (body v) → ⊥)
InPhase phases.Rest v = Settled v × (IsEmpty (behind not_blank (body v)) → ⊥)

pub record Scans (s : ValueScanner) (v : List ℕ) : Type 0 where
  pub phase : InPhase s.phase v
  pub count : s.count ≡ length v
  pub first : s.first ≡ take 64 (first_word v)
  pub text : s.text ≡ take 1024 (body v)
  pub small : s.seen ≤ s.count
  pub seen : s.seen ≡ length (body v)
  pub trimmed : s.trimmed ≡ length (trim_end (body v))
