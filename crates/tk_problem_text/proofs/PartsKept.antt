-- What is kept of a problem's sections, with one piece more.
use Rattle.std.proofs.Common.{◌≡◌, ◌⊎◌, ⊎_elim, ℕ, false, List, Option, Some, None, is_some, refl, sym, ap, subst, ◌∙◌}
use Rattle.std.specs.Prelude.{IfSome, option_and_then, unwrap_or}
use Rattle.tk_problem.specs.declared.limits.TheConstants.{CITY_LIMIT}
use Rattle.tk_words.specs.declared.keyword.Keyword.{Keyword}
use Rattle.tk_words.specs.declared.keyword.Keyword.TheVariants as words
use Rattle.tk_words.specs.Words.{same_word}
use Rattle.tk_lines.specs.Pieces.{Piece, has}
use Rattle.tk_problem_text.specs.HeaderValues.{header_number}
use Rattle.tk_problem_text.specs.Problem.{size_of, format_in, points_of, lower_in, demands_of, depot_of}
use Rattle.tk_problem_text.specs.Reader.Parts.{KeepsValue}
use Rattle.tk_problem_text.proofs.KeptHeaders.{OneMore}

none_of : {A : Type 0} (o : Option A) → is_some o ≡ false → (P : A → Type 0) → IfSome o P
none_of None h P = tt
none_of (Some a) h P = absurd cc

-- what holds of a value that is kept goes on to hold where what it is about stays, or where nothing is kept
pub some_stays : {A B : Type 0} (word : Keyword) (ps : List Piece) (o : Option A) (P : B → A → Type 0) {old new : B} →
    has word ps ≡ is_some o → (old ≡ new) ⊎ (has word ps ≡ false) → IfSome o (P old) → IfSome o (P new)
some_stays word ps o P {new = new} came same h =
    ⊎_elim (λ e. subst (λ b. IfSome o (P b)) e h) (λ none. none_of o (sym came ∙ none) (P new)) same

-- after a piece of the word w
module _ {w : Keyword} {ps qs : List Piece} (more : OneMore w ps qs) where
  pub keeps_on : {A B : Type 0} {word : Keyword} {view : A → B} {old new : B} {kept : Option A} →
      KeepsValue word view old kept ps → same_word w word ≡ false → (old ≡ new) ⊎ (has word ps ≡ false) →
      KeepsValue word view new kept qs
  keeps_on {word = word} {view = view} {kept = kept} h other same = record {
    came = more.has_same word other ∙ h.came;
    is = some_stays word ps kept (λ b a. view a ≡ b) h.came same h.is;
  }

  pub size_stays : same_word w words.Dimension ≡ false → size_of ps ≡ size_of qs
  size_stays other = ap (λ (o : Option (List ℕ)). unwrap_or (option_and_then (header_number 2 CITY_LIMIT) o) 0)
      (sym (more.value_same words.Dimension other))

  pub format_stays : same_word w words.EdgeWeightFormat ≡ false → format_in ps ≡ format_in qs
  format_stays other = rw (more.value_same words.EdgeWeightFormat other) refl

  pub depot_stays : same_word w words.DepotSection ≡ false → depot_of ps ≡ depot_of qs
  depot_stays other = rw (more.tokens_same words.DepotSection other) refl

  module _ (size : size_of ps ≡ size_of qs) where
    pub points_stay : same_word w words.NodeCoordSection ≡ false → points_of ps ≡ points_of qs
    points_stay other = rw (more.tokens_same words.NodeCoordSection other, ← size) refl

    pub demands_stay : same_word w words.DemandSection ≡ false → demands_of ps ≡ demands_of qs
    demands_stay other = rw (more.tokens_same words.DemandSection other, ← size) refl

    pub lower_stays : format_in ps ≡ format_in qs → same_word w words.EdgeWeightSection ≡ false →
        lower_in ps ≡ lower_in qs
    lower_stays format other = rw (more.tokens_same words.EdgeWeightSection other, ← size, ← format) refl
