-- A tour text that is written is read as the cities that it was written of.
use Rattle.std.proofs.Common.{◌≡◌, ℕ, suc, ◌+◌, ◌≤◌, ◌<◌, Bool, true, false, cond, leb, ltb, List, [], ◌∷◌, ◌++◌}
use Rattle.std.proofs.Common.{length, map, Some, None, Ok, pos, refl, sym, ap, subst, ◌∙◌, append_assoc, arith}
use Rattle.std.specs.Prelude.{codes, decimal, flat_map}
use Rattle.std.specs.List.{AllByRecursion}
use Rattle.std.proofs.lemmas.Bool.{lt-leb, le-leb, le-ltb}
use Rattle.std.proofs.lemmas.List.{append-nil, length-append}
use Rattle.tk_problem.specs.declared.limits.TheConstants.{ENTRY_LIMIT}
use Rattle.tk_words.specs.declared.keyword.Keyword.TheVariants as words
use Rattle.tk_words.specs.Lex.{Line, Token, is_blank, behind, lines, tokens, tokens_of, trim}
use Rattle.tk_writers.specs.MatrixText.{number_line}
use Rattle.tk_lines.specs.Pieces.{Piece, Section, Clean, end_piece, end_token, last_line, pieces_at, section_at, stop}
use Rattle.tk_writers.specs.ReadBack.{IsTourText, TourReadsBack}
use Rattle.tk_lines.specs.Lists.{list_entries, list_extent, AreEntries}
use Rattle.tk_lists.specs.Tour.{entries_stop, entry_stop, tour_decided, tour_format, tour_texts}
use Rattle.tk_words.specs.Entry.{is_eof, is_eof_word, is_keyword, is_some_word, numbers_of}
use Rattle.tk_writers.specs.TourWritten.{tour_head, tour_text}
use Rattle.tk_words.specs.Words.{keyword_of}
use Rattle.tk_writers.specs.Written.{line}
use Rattle.tk_lines.proofs.Sections.SectionEnds.{take_whole, last_line-append}
use Rattle.tk_lists.proofs.Lists.{entries_ended, list_ended}
use Rattle.tk_words.proofs.NoWord.{integer-no_word}
use Rattle.tk_writers.proofs.WrittenLines.{one_line, name_line, whole_lines, lines-listed, lines-none, clean, says}
use Rattle.tk_writers.proofs.WrittenLines.{says-section, says-rows, says-covered, says-eof, decided-says, read_within}
use Rattle.tk_writers.proofs.WrittenLines.{Head, head_piece, head_pieces, AreHeads, heads_whole, says-heads}
use Rattle.tk_writers.proofs.Lengths.ListLength.{length_tour_text}
use Rattle.tk_lines.proofs.Headers.HeaderBytes.{trimmed_short}
use Rattle.tk_lines.proofs.Sections.MiddleOfSection.{token}
use Rattle.tk_writers.proofs.Written.WrittenHeaders.{size_number}
use Rattle.tk_writers.proofs.Written.WrittenLines.{whole_line, lines-rows, row_lines, row_tokens, next_line}
use Rattle.tk_writers.proofs.Written.WrittenLines.{tokens-rows, rows_written, in_rows, AreWritten, IsWritten, ShortRows}
use Rattle.tk_writers.proofs.Written.WrittenLines.{numbers_are}
use Rattle.tk_writers.proofs.Written.WrittenNumbers.{IsShort, one_line_append, decimal_line, short_decimal}
use Rattle.tk_lines.proofs.KnownWordLines.{OnOneLine}

-- ---- the cities, each on a line of its own

abbrev Small : List ℕ → Type 0
Small xs = AllByRecursion (λ city. city ≤ 4294967295) xs

abbrev rows_of : List ℕ → List (List ℕ)
rows_of cities = map (λ c. c ∷ []) cities

rows-short : (cities : List ℕ) → Small cities → ShortRows (rows_of cities)
rows-short [] h = tt
rows-short (c ∷ cs) h = ((omega (arith, h.0), tt), rows-short cs h.1)

rows-lines : (cities : List ℕ) → flat_map (λ c. line (decimal c)) cities ≡ flat_map number_line (rows_of cities)
rows-lines [] = refl
rows-lines (c ∷ cs) =
    ap (λ (bs : List ℕ). line bs ++ flat_map (λ d. line (decimal d)) cs) (sym (append-nil (decimal c)))
    ∙ ap (λ (bs : List ℕ). number_line (c ∷ []) ++ bs) (rows-lines cs)

rows-values : (cities : List ℕ) → in_rows (rows_of cities) ≡ cities
rows-values [] = refl
rows-values (c ∷ cs) = ap (λ (ks : List ℕ). c ∷ ks) (rows-values cs)

-- ---- tokens of numbers as entries

are_entries : (ts : List Token) (xs : List ℕ) → AreWritten ts xs → AreEntries ts
are_entries [] xs h = tt
are_entries (t ∷ ts) [] h = absurd h
are_entries (t ∷ ts) (x ∷ xs) h =
    let whole = h.0.whole in
    let number = h.0.is in
    let no_eof : is_eof t.bytes ≡ false = ap is_eof_word (integer-no_word t.bytes (pos x) h.0.is) in
    (rw (whole, number) refl, rw (whole, no_eof) refl, are_entries ts xs h.1)

entry_fine : (k x : ℕ) (t : Token) → IsWritten t x → x ≤ 4294967295 → k < ENTRY_LIMIT → entry_stop k t ≡ None
unfolding entry_stop
entry_fine k x t is small few =
    let whole = is.whole in
    let number = is.is in
    let short : ltb 64 (length t.bytes) ≡ false = le-ltb _ _ is.short in
    let no_word : is_keyword t.bytes ≡ false = ap is_some_word (integer-no_word t.bytes (pos x) is.is) in
    let low : leb 0 x ≡ true = le-leb _ _ (omega arith) in
    let high : leb x 4294967295 ≡ true = le-leb _ _ small in
    let room : leb ENTRY_LIMIT k ≡ false = lt-leb _ _ few in
    rw (short, whole, no_word, number, low, high, room) refl

entries_fine : (k : ℕ) (ts : List Token) (xs : List ℕ) → AreWritten ts xs → Small xs → k + length xs ≤ ENTRY_LIMIT →
    entries_stop k ts ≡ None
unfolding entries_stop
entries_fine k [] xs h small few = refl
entries_fine k (t ∷ ts) [] h small few = absurd h
entries_fine k (t ∷ ts) (x ∷ xs) h small few =
    let here = entry_fine k x t h.0 small.0 (omega (arith, few)) in
    rw here (entries_fine (suc k) ts xs h.1 small.1 (omega (arith, few)))

-- ---- the headers

abbrev labelled : List ℕ → ℕ → List ℕ
labelled name size = name ++ codes "." ++ decimal size ++ codes ".tour"

abbrev heads : List ℕ → ℕ → ℕ → List Head
heads name size n = (words.Name, labelled name size) ∷ (words.Comment, codes "Length = " ++ decimal size)
    ∷ (words.Type, codes "TOUR") ∷ (words.Dimension, decimal n) ∷ []

abbrev headed : List ℕ → ℕ → ℕ → List Piece
headed name size n = head_pieces 1 (heads name size n)

abbrev after_section : List ℕ → ℕ → ℕ → List Token → List Piece
after_section name size n toks = headed name size n ++ Section words.TourSection 5 toks Clean ∷ []

section_piece : (before : List Piece) (ls : List Line)
    → pieces_at tour_format.extent before (whole_line 5 (codes "TOUR_SECTION")) ls
    (behind is_blank (codes "TOUR_SECTION"))
    ≡ section_at tour_format.extent before words.TourSection 5 (tokens ls)
    (end_token (whole_line 5 (codes "TOUR_SECTION")) ls)
unfolding keyword_of tokens_of
section_piece before ls = refl

-- the tests of the headers
behind_short : (bs : List ℕ) → length (behind is_blank bs) ≤ length bs
behind_short [] = omega arith
behind_short (b ∷ bs) = by_test (is_blank b) (behind_short bs)
  where
    by_test : (t : Bool) → length (behind is_blank bs) ≤ length bs →
        length (cond t (behind is_blank bs) (b ∷ bs)) ≤ length (b ∷ bs)
    by_test true ih = omega (arith, ih)
    by_test false ih = omega arith

labelled_short : (name : List ℕ) (size : ℕ) → length name ≤ 1000 → IsShort size → length (labelled name size) ≤ 1024
labelled_short name size room cheap =
    let number = short_decimal size cheap in
    omega (
      arith,
      number,
      room,
      length-append name (codes "."),
      length-append (name ++ codes ".") (decimal size),
      length-append (name ++ codes "." ++ decimal size) (codes ".tour"),
    )

name_passes : (name : List ℕ) (size : ℕ) → length name ≤ 1000 → IsShort size →
    stop tour_format [] (head_piece 1 (words.Name, labelled name size)) ≡ None
name_passes name size room cheap =
    let short = labelled_short name size room cheap in
    let all : ltb 4096 (length (codes " : " ++ labelled name size)) ≡ false = le-ltb _ _ (omega (arith, short)) in
    let kept : length (trim (labelled name size)) ≤ 1024 =
    omega (arith, short, behind_short (labelled name size), trimmed_short (behind is_blank (labelled name size))) in
    let some : ltb 1024 (length (trim (labelled name size))) ≡ false = le-ltb _ _ kept in
    rw (all, some) refl

length_passes : (size : ℕ) → IsShort size →
    stop tour_format [] (head_piece 2 (words.Comment, codes "Length = " ++ decimal size)) ≡ None
length_passes size cheap =
    let short : ltb 4096 (length (codes " : Length = " ++ decimal size)) ≡ false =
    le-ltb _ _ (omega (arith, short_decimal size cheap)) in
    rw short refl

size_passes : (n : ℕ) → 1 ≤ n → n ≤ ENTRY_LIMIT → stop tour_format [] (head_piece 4 (words.Dimension, decimal n)) ≡ None
size_passes n low high =
    let short : ltb 4096 (length (codes " : " ++ decimal n)) ≡ false =
    le-ltb _ _ (omega (arith, short_decimal n (omega arith))) in
    let above : leb 1 n ≡ true = le-leb _ _ low in
    let below : leb n ENTRY_LIMIT ≡ true = le-leb _ _ high in
    rw (short, size_number n (omega arith), above, below) refl

-- ---- the section and the text's end

abbrev minus : ℕ → Token
minus e = token (codes "-1") e

abbrev ends : ℕ → List Line
ends e = whole_line e (codes "-1") ∷ whole_line (suc e) (codes "EOF") ∷ whole_line (suc (suc e)) [] ∷ []

lines-ends : (e : ℕ) → lines true e (flat_map line (codes "-1" ∷ codes "EOF" ∷ [])) ≡ ends e
lines-ends e =
    lines-listed e (codes "-1" ∷ codes "EOF" ∷ []) [] (one_line (codes "-1") refl, (one_line (codes "EOF") refl, tt))
    ∙ ap (λ (ls : List Line). whole_lines e (codes "-1" ∷ codes "EOF" ∷ []) ++ ls) (lines-none (suc (suc e)))

tokens-ends : (e : ℕ) → tokens (ends e) ≡ minus e ∷ token (codes "EOF") (suc e) ∷ []
unfolding tokens_of
tokens-ends e = refl

module _ (toks : List Token) (xs : List ℕ) (written : AreWritten toks xs) (small : Small xs)
    (few : length xs ≤ ENTRY_LIMIT) (e : ℕ) where
  abbrev all : List Token
  all = toks ++ minus e ∷ []

  are : AreEntries toks
  are = are_entries toks xs written

  fine : entries_stop 0 toks ≡ None
  fine = entries_fine 0 toks xs written small (omega (arith, few))

  last_is : last_line 5 all ≡ e
  last_is = last_line-append 5 toks (minus e ∷ [])

  section_made : (before : List Piece) (end : Token) →
      section_at tour_format.extent before words.TourSection 5 (toks ++ minus e ∷ token (codes "EOF") (suc e) ∷ [])
      end ≡ Section words.TourSection 5 all Clean ∷ []
  section_made before end =
      let eof : Token = token (codes "EOF") (suc e) in
      let extent : list_extent (all ++ eof ∷ []) ≡ record { count = length all; closed = true; at_eof = false } =
      list_ended toks are fine (minus e) (eof ∷ []) refl
      ∙ ap (λ (k : ℕ). record { count = k; closed = true; at_eof = false }) (omega arith) in
      ap (λ (ts : List Token). section_at tour_format.extent before words.TourSection 5 ts end)
      (sym (append_assoc toks (minus e ∷ []) (eof ∷ [])))
      ∙ rw (extent, take_whole all (eof ∷ []), clean (last_line 5 all) all eof end (omega (arith, last_is))) refl

  entries_are : list_entries all ≡ toks
  entries_are = entries_ended toks [] (minus e) are refl

  numbers_read : numbers_of (list_entries all) ≡ xs
  numbers_read = ap numbers_of entries_are ∙ numbers_are toks xs written

  all_fine : entries_stop 0 (list_entries all) ≡ None
  all_fine = ap (entries_stop 0) entries_are ∙ fine

-- ---- the text

module _ (name : List ℕ) (size : ℕ) (cities : List ℕ) (h : IsTourText name size cities) where
  abbrev n : ℕ
  n = length cities

  abbrev rows : List (List ℕ)
  rows = rows_of cities

  abbrev e : ℕ
  e = next_line 6 (rows_of cities)

  abbrev toks : List Token
  toks = row_tokens 6 (rows_of cities)

  abbrev taken : List Token
  taken = toks ++ minus e ∷ []

  abbrev section_lines : List Line
  section_lines = row_lines 6 rows ++ ends e

  cheap : IsShort size
  cheap = omega (arith, h.cheap)

  short : IsShort n
  short = omega (arith, h.few)

  small : ShortRows rows
  small = rows-short cities h.small

  written : AreWritten toks cities
  written = subst (AreWritten (row_tokens 6 rows)) (rows-values cities) (rows_written 6 rows small)

  name_whole : OnOneLine (labelled name size)
  name_whole =
      one_line_append (name ++ codes "." ++ decimal size) (codes ".tour") (
      one_line_append (name ++ codes ".") (decimal size) (
      one_line_append name (codes ".") (name_line name h.named.one_line) (one_line (codes ".") refl))
      (decimal_line size cheap)) (one_line (codes ".tour") refl)

  length_whole : OnOneLine (codes "Length = " ++ decimal size)
  length_whole =
      one_line_append (codes "Length = ") (decimal size) (one_line (codes "Length = ") refl) (decimal_line size cheap)

  are_heads : AreHeads tour_format [] 1 (heads name size n)
  unfolding keyword_of
  are_heads = (
    record { whole = name_whole; piece = λ ls. refl; passes = name_passes name size h.room cheap },
    (
      record { whole = length_whole; piece = λ ls. refl; passes = length_passes size cheap },
      (
        record { whole = one_line (codes "TOUR") refl; piece = λ ls. refl; passes = refl },
        (
          record { whole = decimal_line n short; piece = λ ls. refl; passes = size_passes n h.some h.few },
          tt,
        ),
      ),
    ),
  )

  head_whole : AllByRecursion OnOneLine (tour_head name size n)
  head_whole =
      heads_whole tour_format [] 1 (heads name size n) (codes "TOUR_SECTION") are_heads
      (one_line (codes "TOUR_SECTION") refl)

  text_lines : lines true 1 (tour_text name size cities) ≡ whole_lines 1 (tour_head name size n) ++ section_lines
  text_lines =
      let last : List ℕ = flat_map line (codes "-1" ∷ codes "EOF" ∷ []) in
      ap (λ (body : List ℕ). lines true 1 ((flat_map line (tour_head name size n) ++ body) ++ last)) (rows-lines cities)
      ∙ ap (lines true 1) (append_assoc (flat_map line (tour_head name size n)) (flat_map number_line rows) last)
      ∙ lines-listed 1 (tour_head name size n) (flat_map number_line rows ++ last) head_whole
      ∙ ap (λ (ls : List Line). whole_lines 1 (tour_head name size n) ++ ls) (
      lines-rows 6 rows last small ∙ ap (λ (ls : List Line). row_lines 6 rows ++ ls) (lines-ends e))

  abbrev line_5 : List Line
  line_5 = whole_line 5 (codes "TOUR_SECTION") ∷ section_lines

  tokens_are : tokens section_lines ≡ toks ++ minus e ∷ token (codes "EOF") (suc e) ∷ []
  tokens_are = tokens-rows 6 rows (ends e) small ∙ ap (λ (ts : List Token). toks ++ ts) (tokens-ends e)

  piece : pieces_at tour_format.extent (headed name size n) (whole_line 5 (codes "TOUR_SECTION")) section_lines
      (behind is_blank (codes "TOUR_SECTION")) ≡ Section words.TourSection 5 taken Clean ∷ []
  piece =
      let end : Token = end_token (whole_line 5 (codes "TOUR_SECTION")) section_lines in
      section_piece (headed name size n) section_lines
      ∙ ap (λ (ts : List Token). section_at tour_format.extent (headed name size n) words.TourSection 5 ts end)
      tokens_are
      ∙ section_made toks cities written h.small h.few e (headed name size n) end

  section_passes : stop tour_format (headed name size n) (Section words.TourSection 5 taken Clean) ≡ None
  section_passes = rw (all_fine toks cities written h.small h.few e) refl

  at_end_passes : tour_format.at_end (after_section name size n taken) ≡ None
  at_end_passes = refl

  says-body : (end : List Piece) → says tour_format (headed name size n) 0 line_5 end ≡ Some (Ok cities)
  says-body end =
      says-section tour_format (headed name size n) 4 (codes "TOUR_SECTION") section_lines end words.TourSection taken
      piece section_passes
      ∙ ap (λ (m : ℕ). says tour_format (after_section name size n taken) m section_lines end)
      (last_is toks cities written h.small h.few e)
      ∙ says-rows tour_format (after_section name size n taken) e 6 rows (ends e) end (omega arith)
      ∙ says-covered tour_format (after_section name size n taken) e (whole_line e (codes "-1"))
      (whole_line (suc e) (codes "EOF") ∷ whole_line (suc (suc e)) [] ∷ []) end (omega arith)
      ∙ says-eof tour_format (after_section name size n taken) e (suc e) (whole_line (suc (suc e)) [] ∷ []) end
      (omega arith) at_end_passes
      ∙ ap (λ (cs : List ℕ). Some (Ok cs)) (numbers_read toks cities written h.small h.few e)

  said : tour_decided true (tour_text name size cities) ≡ Some (Ok cities)
  said =
      let all : List Line = whole_lines 1 (tour_head name size n) ++ section_lines in
      decided-says tour_format (tour_text name size cities)
      ∙ ap (λ (ls : List Line). says tour_format [] 0 ls (end_piece ls)) text_lines
      ∙ says-heads tour_format [] 0 (heads name size n) line_5 (end_piece all) are_heads
      ∙ says-body (end_piece all)

pub tour_read_back : (name : List ℕ) (size : ℕ) (cities : List ℕ) → IsTourText name size cities →
    TourReadsBack name size cities
tour_read_back name size cities h =
    read_within tour_texts (tour_text name size cities) cities (length_tour_text name size cities h.named.short h.few)
    (said name size cities h)
