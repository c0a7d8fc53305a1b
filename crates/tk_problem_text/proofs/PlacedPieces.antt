-- What is kept of the display data, with one piece more.
use Rattle.std.proofs.Common.{◌≡◌, ℕ, Bool, true, false, cond, not, List, [], ◌∷◌, ◌++◌, Option, Some, None}
use Rattle.std.proofs.Common.{is_some, refl, sym, ap, ◌∙◌}
use Rattle.std.specs.Prelude.{option_and_then, unwrap_or}
use Rattle.std.proofs.lemmas.Bool.{true≢false}
use Rattle.tk_problem.specs.declared.limits.TheConstants.{CITY_LIMIT}
use Rattle.tk_problem.specs.declared.point.Point.{Point}
use Rattle.tk_words.specs.declared.keyword.Keyword.{Keyword}
use Rattle.tk_words.specs.declared.keyword.Keyword.TheVariants as words
use Rattle.tk_words.specs.Lex.{Token}
use Rattle.tk_words.specs.Words.{same_word}
use Rattle.tk_lines.specs.Pieces.{After, Header, Piece, first_at, has, tokens_in, value_of}
use Rattle.tk_lines.specs.Reader.Handlers.{a_header, a_section}
use Rattle.tk_lines.proofs.Pieces.PieceLookups.{has-append, tokens_in-header, tokens_in-kept, tokens_in-new}
use Rattle.tk_lines.proofs.Pieces.PieceValues.{has-header, has-section}
use Rattle.tk_words.proofs.BoolLaws.{or_true}
use Rattle.tk_problem_text.specs.declared.display.Display.{Display}
use Rattle.tk_problem_text.specs.declared.display.Display.TheVariants.{Open, Read, Unread}
use Rattle.tk_problem_text.specs.declared.header_values.WeightType.{WeightType}
use Rattle.tk_problem_text.specs.declared.parts.Parts.{Parts}
use Rattle.tk_problem_text.specs.HeaderValues.{header_number, weight_type_of}
use Rattle.tk_problem_text.specs.Placed.{is_plane, reads_display}
use Rattle.tk_problem_text.specs.Problem.{problem_header, size_of, weight_type}
use Rattle.tk_problem_text.specs.Reader.Parts.{HasParts}
use Rattle.tk_problem_text.specs.Reader.PlacedHandler.{HasDisplay}
use Rattle.tk_problem_text.specs.Sections.Rows.{row_places}

-- the first header of a word stays the first
value_of-first : (w : Keyword) (ps qs : List Piece) → is_some (value_of w ps) ≡ true →
    value_of w (ps ++ qs) ≡ value_of w ps
value_of-first w [] qs h = absurd cc
value_of-first w (Header v x ∷ ps) qs h = by_test (same_word v w) h (value_of-first w ps qs)
  where
    by_test : (t : Bool) → is_some (cond t (Some x.bytes) (value_of w ps)) ≡ true
        → (is_some (value_of w ps) ≡ true → value_of w (ps ++ qs) ≡ value_of w ps)
        → cond t (Some x.bytes) (value_of w (ps ++ qs)) ≡ cond t (Some x.bytes) (value_of w ps)
    by_test true some again = refl
    by_test false some again = again some
value_of-first w (_ ∷ ps) qs h = value_of-first w ps qs h

some_value : {A : Type 0} (f : List ℕ → Option A) (o : Option (List ℕ)) → is_some (option_and_then f o) ≡ true →
    is_some o ≡ true
some_value f None h = absurd cc
some_value f (Some v) h = refl

some_plane : (o : Option WeightType) → is_plane o ≡ true → is_some o ≡ true
some_plane None h = absurd cc
some_plane (Some t) h = refl

-- weights that are known to be in the plane stay so
plane_stays : (ps qs : List Piece) → is_plane (weight_type ps) ≡ true → is_plane (weight_type (ps ++ qs)) ≡ true
plane_stays ps qs h =
    let some = some_value weight_type_of (value_of words.EdgeWeightType ps) (some_plane (weight_type ps) h) in
    ap (λ o. is_plane (option_and_then weight_type_of o)) (value_of-first words.EdgeWeightType ps qs some) ∙ h

-- the number of nodes is known
pub sized_parts : (p : Parts) (ps : List Piece) → HasParts p ps → has words.Dimension ps ≡ true →
    is_some (value_of words.Dimension ps) ≡ true
sized_parts p ps parts sized =
    some_value (header_number 2 CITY_LIMIT) (value_of words.Dimension ps)
    (ap is_some parts.headers.dimension.says ∙ sym parts.headers.dimension.came ∙ sized)

size_stays : (ps qs : List Piece) → is_some (value_of words.Dimension ps) ≡ true → size_of (ps ++ qs) ≡ size_of ps
size_stays ps qs some = ap (λ o. unwrap_or (option_and_then (header_number 2 CITY_LIMIT) o) 0)
    (value_of-first words.Dimension ps qs some)

-- the word of the display data
pub is_display : (word : Keyword) → same_word word words.DisplayDataSection ≡ true → word ≡ words.DisplayDataSection
is_display words.DisplayDataSection h = refl
is_display _ h = absurd cc

pub reads_word : (before : List Piece) (word : Keyword) → reads_display before word ≡ true →
    word ≡ words.DisplayDataSection
reads_word before words.DisplayDataSection h = refl
reads_word before _ h = absurd cc

not_header : (before : List Piece) (word : Keyword) (v : List ℕ) (n : ℕ) →
    first_at n (problem_header before word v) ≡ None → same_word word words.DisplayDataSection ≡ false
not_header before words.DisplayDataSection v n h = absurd cc
not_header before _ v n h = refl

not_not : (t : Bool) → not t ≡ false → t ≡ true
not_not true h = refl
not_not false h = absurd cc

-- pieces that add no display data, unless the weights are known to be in the plane
kept : (p : Parts) (ps qs : List Piece) (display : Display) → HasParts p ps
    → (has words.DisplayDataSection (ps ++ qs) ≡ true → has words.DisplayDataSection ps ≡ false
    → is_plane (weight_type ps) ≡ true)
    → tokens_in words.DisplayDataSection (ps ++ qs) ≡ tokens_in words.DisplayDataSection ps
    → HasDisplay ps display → HasDisplay (ps ++ qs) display
kept p ps qs Unread parts new same h = λ came. by_test (has words.DisplayDataSection ps) refl came
  where
    by_test : (t : Bool) → has words.DisplayDataSection ps ≡ t → has words.DisplayDataSection (ps ++ qs) ≡ true →
        is_plane (weight_type (ps ++ qs)) ≡ true
    by_test true e came = plane_stays ps qs (h e)
    by_test false e came = plane_stays ps qs (new came e)
kept p ps qs (Open section) parts new same h = elim h [ ]
kept p ps qs (Read points) parts new same h = (
  has-append words.DisplayDataSection ps qs ∙ rw h.0 refl,
  has-append words.Dimension ps qs ∙ rw h.1 refl,
  h.2 ∙ sym (ap (λ m. row_places m (tokens_in words.DisplayDataSection (ps ++ qs)))
      (size_stays ps qs (sized_parts p ps parts h.1)) ∙ ap (row_places (size_of ps)) same),
)

pub kept_header : (p : Parts) (ps : List Piece) (word : Keyword) (v : List ℕ) (n : ℕ) (display : Display)
    → HasParts p ps → first_at n (problem_header ps word v) ≡ None → HasDisplay ps display
    → HasDisplay (ps ++ a_header word v n) display
kept_header p ps word v n display parts fine h =
    kept p ps (a_header word v n) display parts
    (λ came none. absurd (true≢false (sym came ∙ has-header words.DisplayDataSection word ps v n
    ∙ rw (none, not_header ps word v n fine) refl)))
    (tokens_in-header words.DisplayDataSection ps word v n) h

pub kept_section : (p : Parts) (ps : List Piece) (word : Keyword) (n : ℕ) (toks : List Token) (after : After)
    (display : Display) → HasParts p ps → has word ps ≡ false → reads_display ps word ≡ false → HasDisplay ps display
    → HasDisplay (ps ++ a_section word n toks after) display
kept_section p ps word n toks after display parts fresh skipped h =
    by_word (same_word word words.DisplayDataSection) refl
  where
    is_new : word ≡ words.DisplayDataSection → HasDisplay (ps ++ a_section word n toks after) display
    is_new is = by_state display h
      where
        plane : is_plane (weight_type ps) ≡ true
        plane = not_not (is_plane (weight_type ps)) (rw is at skipped)

        by_state : (d : Display) → HasDisplay ps d → HasDisplay (ps ++ a_section word n toks after) d
        by_state Unread is_unread = λ came. plane_stays ps (a_section word n toks after) plane
        by_state (Open section) is_open = elim is_open [ ]
        by_state (Read points) is_read = absurd (true≢false (sym is_read.0 ∙ (rw is at fresh)))

    by_word : (t : Bool) → same_word word words.DisplayDataSection ≡ t →
        HasDisplay (ps ++ a_section word n toks after) display
    by_word true e = is_new (is_display word e)
    by_word false e =
        kept p ps (a_section word n toks after) display parts
        (λ came none. absurd (true≢false (sym came ∙ has-section words.DisplayDataSection word ps n toks after
        ∙ rw (none, e) refl)))
        (tokens_in-kept words.DisplayDataSection ps (a_section word n toks after) (rw e refl)) h

-- the display data are read
pub display_read : (p : Parts) (ps : List Piece) (n : ℕ) (toks : List Token) (after : After) (points : List Point)
    → HasParts p ps → has words.Dimension ps ≡ true → has words.DisplayDataSection ps ≡ false
    → points ≡ row_places (size_of ps) toks
    → HasDisplay (ps ++ a_section words.DisplayDataSection n toks after) (Read points)
display_read p ps n toks after points parts sized fresh are =
    let qs = a_section words.DisplayDataSection n toks after in (
      has-section words.DisplayDataSection words.DisplayDataSection ps n toks after
          ∙ or_true (has words.DisplayDataSection ps),
      has-append words.Dimension ps qs ∙ rw sized refl,
      are ∙ sym (ap (λ m. row_places m (tokens_in words.DisplayDataSection (ps ++ qs)))
          (size_stays ps qs (sized_parts p ps parts sized))
          ∙ ap (row_places (size_of ps)) (tokens_in-new words.DisplayDataSection ps qs fresh)),
    )
