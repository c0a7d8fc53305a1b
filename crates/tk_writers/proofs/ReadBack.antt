-- A matrix text is read as the problem that it was written of.
use Rattle.std.proofs.Common.{◌≡◌, ℕ, suc, ◌<◌, ◌≤◌, true, false, leb, ltb, List, [], ◌∷◌, ◌++◌, length, map, min, Some}
use Rattle.std.proofs.Common.{None, Ok, refl, sym, ap, ◌∙◌, arith, append_assoc, inl, inr}
use Rattle.std.specs.Prelude.{codes, flat_map, unwrap_or, option_map}
use Rattle.std.proofs.lemmas.Bool.{le-leb, le-ltb, cases_eq}
use Rattle.std.proofs.lemmas.List.{length-map, length-append}
use Rattle.tk_problem.specs.declared.limits.TheConstants.{TABLE_LIMIT}
use Rattle.tk_words.specs.declared.keyword.Keyword.TheVariants as words
use Rattle.tk_problem.specs.declared.weights.Format.{Format}
use Rattle.tk_problem.specs.declared.weights.Format.TheVariants as formats
use Rattle.tk_problem_text.specs.Sections.FixedSections.{tokens_stop, fixed_extent}
use Rattle.tk_words.specs.Lex.{Line, Token, is_blank, behind, lines, tokens, tokens_of}
use Rattle.tk_writers.specs.MatrixText.{matrix_text, number_line}
use Rattle.tk_lines.specs.Pieces.{Piece, Section, Clean, end_piece, end_token, last_line, pieces_at, section_at, stop}
use Rattle.tk_lines.specs.Pieces.{or_else, first_at}
use Rattle.tk_problem_text.specs.Problem.{ProblemIs, Lower, problem_decided, problem_format, problem_texts}
use Rattle.tk_problem_text.specs.Problem.{problem_value, wanted}
use Rattle.tk_problem_text.specs.Problem.{size_of, format_in, listed_format, token_tests, word_tests}
use Rattle.tk_problem_text.specs.Sections.Rows.{number_in}
use Rattle.tk_problem_text.specs.Names.{IsName}
use Rattle.tk_writers.specs.ReadBack.{IsTable, ReadsBack, lower_triangle}
use Rattle.tk_problem.specs.WeightOrder.{order}
use Rattle.tk_problem_text.specs.Sections.WeightSection.{weight_count, weight_tests, lower_weights}
use Rattle.tk_words.specs.Words.{keyword_of}
use Rattle.tk_writers.specs.Written.{line}
use Rattle.tk_lines.proofs.Sections.SectionEnds.{take_whole}
use Rattle.tk_writers.proofs.Lengths.ShortMatrix.{length_short_matrix}
use Rattle.tk_writers.proofs.WrittenLines.{one_line, whole_lines, lines-listed, lines-none, clean, says, says-heads}
use Rattle.tk_writers.proofs.WrittenLines.{says-section, says-rows, says-eof, decided-says, read_within, AreHeads}
use Rattle.tk_writers.proofs.WrittenLines.{head_line}
use Rattle.tk_writers.proofs.WrittenLines.{heads_whole}
use Rattle.tk_lines.proofs.Sections.MiddleOfSection.{token}
use Rattle.tk_writers.proofs.Written.WrittenHeaders.{heads, headed, after_section, are_heads, size_read}
use Rattle.tk_writers.proofs.Written.WrittenHeaders.{format_read, name_read}
use Rattle.tk_writers.proofs.Written.WrittenLines.{whole_line, lines-written, lines-rows, row_lines, row_tokens}
use Rattle.tk_writers.proofs.Written.WrittenLines.{next_line, tokens-rows, last_of_rows, rows_written, numbers_written}
use Rattle.tk_writers.proofs.Written.WrittenLines.{AreWritten, ShortRows}
use Rattle.tk_writers.proofs.Written.WrittenNumbers.{IsShort}
use Rattle.tk_writers.proofs.Written.WrittenPlaces.{at_place, rows_of, matrix_lines, rows-order, rows-short}
use Rattle.tk_writers.proofs.Written.WrittenWeights.{weights_accepted, lower_read}

-- ---- the lines of the text

-- the last lines
abbrev ends : ℕ → List Line
ends e = whole_line e (codes "EOF") ∷ whole_line (suc e) [] ∷ []

-- the lines from the section's word on
abbrev section_lines : List (List ℕ) → List Line
section_lines rows = row_lines 7 rows ++ ends (next_line 7 rows)

abbrev head_lines : List ℕ → ℕ → Format → List (List ℕ)
head_lines name n f = map head_line (heads name n f) ++ codes "EDGE_WEIGHT_SECTION" ∷ []

-- ---- the section

tokens-ends : (e : ℕ) → tokens (ends e) ≡ token (codes "EOF") e ∷ []
unfolding tokens_of
tokens-ends e = refl

section_piece : (before : List Piece) (ls : List Line)
    → pieces_at problem_format.extent before (whole_line 6 (codes "EDGE_WEIGHT_SECTION")) ls
    (behind is_blank (codes "EDGE_WEIGHT_SECTION"))
    ≡ section_at problem_format.extent before words.EdgeWeightSection 6 (tokens ls)
    (end_token (whole_line 6 (codes "EDGE_WEIGHT_SECTION")) ls)
unfolding keyword_of tokens_of
section_piece before ls = refl

abbrev answer : List ℕ → ℕ → List ℕ → ProblemIs
answer name n weights = record { name = name; n = n; weights = Lower weights; routing = None }

module _ (name : List ℕ) (n : ℕ) (f : Format) (low : 2 ≤ n) (high : n ≤ TABLE_LIMIT) where
  size_is : size_of (headed name n f) ≡ n
  size_is = ap (λ o. unwrap_or o 0) (size_read n low high)

  format_is : format_in (headed name n f) ≡ f
  format_is = ap (λ o. unwrap_or (listed_format o) formats.FullMatrix) (format_read f)

  wanted_is : wanted (headed name n f) words.EdgeWeightSection ≡ weight_count n f
  wanted_is = ap (λ o. unwrap_or (option_map (weight_count (size_of (headed name n f))) (listed_format o)) 0)
      (format_read f) ∙ ap (λ m. weight_count m f) size_is

  word_passes : first_at 6 (word_tests (headed name n f) words.EdgeWeightSection) ≡ None
  word_passes =
      let few : ltb TABLE_LIMIT n ≡ false = le-ltb _ _ high in
      let size = size_read n low high in
      rw (format_read f, size, few) refl

  section_made : (toks : List Token) (eof end : Token) → length toks ≡ weight_count n f → last_line 6 toks < eof.line
      → section_at problem_format.extent (headed name n f) words.EdgeWeightSection 6 (toks ++ eof ∷ []) end ≡ Section
      words.EdgeWeightSection 6 toks Clean ∷ []
  section_made toks eof end count lt =
      let most : length toks ≤ length (toks ++ eof ∷ []) = omega (arith, length-append toks (eof ∷ [])) in
      let some : min (length toks) (length (toks ++ eof ∷ [])) ≡ length toks = omega (arith, most) in
      let closed : leb (length toks) (length (toks ++ eof ∷ [])) ≡ true = le-leb _ _ most in
      ap (λ w. section_at (λ before word ts. fixed_extent w ts) (headed name n f) words.EdgeWeightSection 6
      (toks ++ eof ∷ []) end) (wanted_is ∙ sym count)
      ∙ rw (some, closed, take_whole toks (eof ∷ []), clean (last_line 6 toks) toks eof end lt) refl

  at_end_passes : (toks : List Token) → problem_format.at_end (after_section name n f toks) ≡ None
  at_end_passes toks = refl

  module _ (table : ℕ → ℕ → ℕ) (is_table : IsTable n table) (toks : List Token)
      (written : AreWritten toks (map (at_place table) (order f n))) where
    section_passes : stop problem_format (headed name n f) (Section words.EdgeWeightSection 6 toks Clean) ≡ None
    section_passes =
        ap (λ s. or_else s
        (or_else (tokens_stop (token_tests (headed name n f) words.EdgeWeightSection) [] toks) None)) word_passes
        ∙ ap (λ m. or_else (tokens_stop (weight_tests m (format_in (headed name n f))) [] toks) None) size_is
        ∙ ap (λ g. or_else (tokens_stop (weight_tests n g) [] toks) None) format_is
        ∙ ap (λ s. or_else s None) (weights_accepted n table is_table f toks written)

    value_is : IsName name → problem_value (after_section name n f toks) ≡ answer name n (lower_triangle n table)
    value_is is_name =
        ap (λ given. answer given (size_of (after_section name n f toks))
        (lower_weights (size_of (after_section name n f toks)) (format_in (after_section name n f toks)) toks))
        (name_read name is_name)
        ∙ ap (λ m. answer name m (lower_weights m (format_in (after_section name n f toks)) toks)) size_is
        ∙ ap (λ g. answer name n (lower_weights n g toks)) format_is
        ∙ ap (answer name n)
        (lower_read n table is_table f toks (numbers_written toks (map (at_place table) (order f n)) written))

-- ---- the text

module _ (name : List ℕ) (n : ℕ) (table : ℕ → ℕ → ℕ) (f : Format) (is_name : IsName name) (is_table : IsTable n table)
    (low : 2 ≤ n) (high : n ≤ TABLE_LIMIT) where
  abbrev rows : List (List ℕ)
  rows = rows_of n table f

  abbrev toks : List Token
  toks = row_tokens 7 (rows_of n table f)

  abbrev last : ℕ
  last = next_line 7 (rows_of n table f)

  short_weights : (a b : ℕ) → 1 ≤ a → a ≤ n → 1 ≤ b → b ≤ n → IsShort (table a b)
  short_weights a b a_low a_high b_low b_high = elim (cases_eq a b) as (λ _. IsShort (table a b)) [
    | inl same ↦ omega (arith, ap (table a) same, is_table.diagonal a a_low a_high)
    | inr apart ↦ omega (arith, is_table.weights a b a_low a_high b_low b_high apart)
  ]

  small : ShortRows rows
  small = rows-short n table short_weights f

  written : AreWritten toks (map (at_place table) (order f n))
  written = rw (← rows-order n table f) (rows_written 7 rows small)

  count : length toks ≡ weight_count n f
  count = sym (length-map toks number_in) ∙ ap length (numbers_written toks (map (at_place table) (order f n)) written)
      ∙ length-map (order f n) (at_place table)

  tokens_are : tokens (section_lines rows) ≡ toks ++ token (codes "EOF") last ∷ []
  tokens_are = tokens-rows 7 rows (ends last) small ∙ ap (λ (ts : List Token). toks ++ ts) (tokens-ends last)

  before_last : suc (last_line 6 toks) ≡ last
  before_last = last_of_rows 6 rows

  piece : pieces_at problem_format.extent (headed name n f) (whole_line 6 (codes "EDGE_WEIGHT_SECTION"))
      (section_lines rows) (behind is_blank (codes "EDGE_WEIGHT_SECTION")) ≡ Section words.EdgeWeightSection 6
      toks Clean ∷ []
  piece =
      let end : Token = end_token (whole_line 6 (codes "EDGE_WEIGHT_SECTION")) (section_lines rows) in
      section_piece (headed name n f) (section_lines rows)
      ∙ ap (λ ts. section_at problem_format.extent (headed name n f) words.EdgeWeightSection 6 ts end) tokens_are
      ∙ section_made name n f low high toks (token (codes "EOF") last) end count (omega (arith, before_last))

  says-body : (end : List Piece) →
      says problem_format (headed name n f) 0 (whole_line 6 (codes "EDGE_WEIGHT_SECTION") ∷ section_lines rows)
      end ≡ Some (Ok (answer name n (lower_triangle n table)))
  says-body end =
      says-section problem_format (headed name n f) 5 (codes "EDGE_WEIGHT_SECTION") (section_lines rows) end
      words.EdgeWeightSection toks piece (section_passes name n f low high table is_table toks written)
      ∙ says-rows problem_format (after_section name n f toks) (last_line 6 toks) 7 rows (ends last) end
      (omega (arith, before_last))
      ∙ says-eof problem_format (after_section name n f toks) (last_line 6 toks) last (whole_line (suc last) [] ∷ [])
      end (omega (arith, before_last)) (at_end_passes name n f low high toks)
      ∙ ap (λ v. Some (Ok v)) (value_is name n f low high table is_table toks written is_name)

  heads_are : AreHeads problem_format [] 1 (heads name n f)
  heads_are = are_heads n low high name f is_name

  text_lines : lines true 1 (matrix_text name n table f) ≡ whole_lines 1 (head_lines name n f) ++ section_lines rows
  text_lines =
      ap (λ body. lines true 1 ((flat_map line (head_lines name n f) ++ body) ++ line (codes "EOF")))
      (matrix_lines n table f)
      ∙ ap (lines true 1)
      (append_assoc (flat_map line (head_lines name n f)) (flat_map number_line rows) (line (codes "EOF")))
      ∙ lines-listed 1 (head_lines name n f) (flat_map number_line rows ++ line (codes "EOF"))
      (heads_whole problem_format [] 1 (heads name n f) (codes "EDGE_WEIGHT_SECTION") heads_are
      (one_line (codes "EDGE_WEIGHT_SECTION") refl))
      ∙ ap (λ (ls : List Line). whole_lines 1 (head_lines name n f) ++ ls) (
      lines-rows 7 rows (line (codes "EOF")) small
      ∙ ap (λ (ls : List Line). row_lines 7 rows ++ ls) (
      lines-written last (codes "EOF") [] (one_line (codes "EOF") refl)
      ∙ ap (λ (ls : List Line). whole_line last (codes "EOF") ∷ ls) (lines-none (suc last))))

  said : problem_decided true (matrix_text name n table f) ≡ Some (Ok (answer name n (lower_triangle n table)))
  said =
      let all : List Line = whole_lines 1 (head_lines name n f) ++ section_lines rows in
      decided-says problem_format (matrix_text name n table f)
      ∙ ap (λ (ls : List Line). says problem_format [] 0 ls (end_piece ls)) text_lines
      ∙ says-heads problem_format [] 0 (heads name n f)
      (whole_line 6 (codes "EDGE_WEIGHT_SECTION") ∷ section_lines rows) (end_piece all) heads_are
      ∙ says-body (end_piece all)

  pub reads_back : ReadsBack name n table f
  reads_back =
      read_within problem_texts (matrix_text name n table f) (answer name n (lower_triangle n table))
      (length_short_matrix name n table f is_name.short high small) said
