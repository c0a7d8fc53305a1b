-- The headers of a matrix text, as pieces without a fault.
use Rattle.std.proofs.Common.{◌≡◌, ℕ, ◌≤◌, true, false, leb, ltb, List, [], ◌∷◌, ◌++◌, length, Some, None, pos, refl}
use Rattle.std.proofs.Common.{ap, ◌∙◌, arith}
use Rattle.std.specs.Prelude.{codes, decimal}
use Rattle.std.proofs.lemmas.Bool.{le-leb, le-ltb}
use Rattle.tk_problem.specs.declared.limits.TheConstants.{CITY_LIMIT, TABLE_LIMIT}
use Rattle.tk_words.specs.declared.keyword.Keyword.TheVariants as words
use Rattle.tk_problem_text.specs.declared.header_values.WeightFormat.TheVariants as weight_formats
use Rattle.tk_problem.specs.declared.weights.Format as Layout
use Rattle.tk_problem.specs.declared.weights.Format.TheVariants as formats
use Rattle.tk_problem_text.specs.HeaderValues.{weight_format_of, header_number, name_of}
use Rattle.tk_words.specs.Lex.{Token, is_blank, behind, front, integer, trim, IsUnbroken}
use Rattle.tk_problem.specs.WeightWords.{format_word}
use Rattle.tk_lines.specs.Pieces.{Piece, Section, Clean, stop}
use Rattle.tk_problem_text.specs.Problem.{problem_format}
use Rattle.tk_problem_text.specs.Names.{IsName}
use Rattle.tk_lines.specs.HeaderValue.{first_word, not_blank}
use Rattle.tk_words.specs.Words.{keyword_of}
use Rattle.tk_lines.proofs.Sections.MiddleOfSection.{run_head}
use Rattle.tk_lines.proofs.KnownWordLines.{OnOneLine}
use Rattle.tk_writers.proofs.WrittenLines.{Head, head_value, head_piece, head_pieces, AreHeads, one_line, name_line}
use Rattle.tk_writers.proofs.Written.WrittenNumbers.{IsShort, decimal_line, decimal_run, integer_decimal, short_decimal}

-- ---- the headers

abbrev pub heads : List ℕ → ℕ → Layout.Format → List Head
heads name n f = (words.Name, name) ∷ (words.Type, codes "TSP") ∷ (words.Dimension, decimal n)
    ∷ (words.EdgeWeightType, codes "EXPLICIT") ∷ (words.EdgeWeightFormat, format_word f) ∷ []

abbrev pub headed : List ℕ → ℕ → Layout.Format → List Piece
headed name n f = head_pieces 1 (heads name n f)

abbrev pub after_section : List ℕ → ℕ → Layout.Format → List Token → List Piece
after_section name n f toks = headed name n f ++ Section words.EdgeWeightSection 6 toks Clean ∷ []

-- the tests of the headers
name_passes : (name : List ℕ) → IsName name → stop problem_format [] (head_piece 1 (words.Name, name)) ≡ None
name_passes name is =
    let short = is.short in
    let all : ltb 4096 (length (head_value (words.Name, name))) ≡ false = le-ltb _ _ (omega (arith, short)) in
    let some : ltb 1024 (length (trim name)) ≡ false = le-ltb _ _ (omega (arith, short, ap length is.trimmed)) in
    rw (all, some) refl

behind_run : (ds : List ℕ) → IsUnbroken ds → behind is_blank ds ≡ ds
behind_run [] run = absurd run
behind_run (b ∷ bs) run = rw (run_head b bs run) refl

front_run : (ds : List ℕ) → IsUnbroken ds → front not_blank ds ≡ ds
front_run [] run = absurd run
front_run (b ∷ []) run = rw run refl
front_run (b ∷ c ∷ ds) run = let first = run.0 in rw first (ap (λ (bs : List ℕ). b ∷ bs) (front_run (c ∷ ds) run.1))

pub first_word_run : (ds : List ℕ) → IsUnbroken ds → first_word (codes " : " ++ ds) ≡ ds
first_word_run ds run = ap (front not_blank) (behind_run ds run) ∙ front_run ds run

pub size_number : (n : ℕ) → IsShort n → integer (first_word (codes " : " ++ decimal n)) ≡ Some (pos n)
size_number n short = ap integer (first_word_run (decimal n) (decimal_run n short)) ∙ integer_decimal n short

format_line : (f : Layout.Format) → OnOneLine (format_word f)
format_line formats.FullMatrix = one_line (codes "FULL_MATRIX") refl
format_line f = one_line (format_word f) refl

format_passes : (f : Layout.Format) →
    stop problem_format [] (head_piece 5 (words.EdgeWeightFormat, format_word f)) ≡ None
format_passes formats.FullMatrix = refl
format_passes _ = refl

module _ (n : ℕ) (low : 2 ≤ n) (high : n ≤ TABLE_LIMIT) where
  above : leb 2 n ≡ true
  above = le-leb _ _ low

  below : leb n CITY_LIMIT ≡ true
  below = le-leb _ _ (omega arith)

  size_passes : stop problem_format [] (head_piece 3 (words.Dimension, decimal n)) ≡ None
  size_passes =
      let short : ltb 4096 (length (codes " : " ++ decimal n)) ≡ false =
      le-ltb _ _ (omega (arith, short_decimal n (omega arith))) in
      rw (short, size_number n (omega arith), above, below) refl

  pub size_read : header_number 2 CITY_LIMIT (codes " : " ++ decimal n) ≡ Some n
  size_read = rw (size_number n (omega arith), above, below) refl

  pub are_heads : (name : List ℕ) (f : Layout.Format) → IsName name → AreHeads problem_format [] 1 (heads name n f)
  unfolding keyword_of
  are_heads name f is = (
    record { whole = name_line name is.one_line; piece = λ ls. refl; passes = name_passes name is },
    (
      record { whole = one_line (codes "TSP") refl; piece = λ ls. refl; passes = refl },
      (
        record { whole = decimal_line n (omega arith); piece = λ ls. refl; passes = size_passes },
        (
          record { whole = one_line (codes "EXPLICIT") refl; piece = λ ls. refl; passes = refl },
          (
            record { whole = format_line f; piece = λ ls. refl; passes = format_passes f },
            tt,
          ),
        ),
      ),
    ),
  )

pub format_read : (f : Layout.Format) → weight_format_of (codes " : " ++ format_word f) ≡ Some (weight_formats.Listed f)
format_read formats.FullMatrix = refl
format_read _ = refl

pub name_read : (name : List ℕ) → IsName name → name_of (codes " : " ++ name) ≡ name
name_read name is = let trimmed = is.trimmed in let some = is.some in rw (trimmed, some) refl
