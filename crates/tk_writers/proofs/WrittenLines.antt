-- What the lines of a text that is written say, one after the other.
use Rattle.std.proofs.Common.{◌≡◌, ◌≢◌, ℕ, suc, ◌<◌, ◌≤◌, Bool, true, false, eqb, leb, ◌||◌, List, [], ◌∷◌, ◌++◌}
use Rattle.std.proofs.Common.{length, get_or, map, All, Option, Some, None, Ok, Result, refl, sym, ap, ◌∙◌, arith}
use Rattle.std.proofs.Common.{append_assoc, append-nil}
use Rattle.std.specs.Prelude.{codes, flat_map}
use Rattle.std.specs.List.{AllByRecursion, list_any}
use Rattle.std.proofs.lemmas.Bool.{lt-leb, ne_eqb}
use Rattle.std.proofs.lemmas.List.Elements.{All-head, All-tail}
use Rattle.tk_words.specs.declared.keyword.Keyword.{Keyword}
use Rattle.tk_words.specs.declared.fault.TextFault.{TextFault}
use Rattle.tk_words.specs.Texts.{Texts}
use Rattle.tk_words.specs.Lex.{LF, Line, Token, is_blank, behind, lines}
use Rattle.tk_lines.specs.Pieces.{Piece, Header, Section, Clean, Format, cut, decided_by, end_piece, judge, last_line}
use Rattle.tk_lines.specs.Pieces.{pieces_at, stop, after_tokens}
use Rattle.tk_words.specs.Words.{keyword_of, word}
use Rattle.tk_words.specs.declared.keyword.Keyword.TheVariants as words
use Rattle.tk_writers.specs.Written.{line}
use Rattle.tk_writers.specs.ReadBack.{IsReadBackAs}
use Rattle.tk_words.proofs.DecidedTexts.{answer_ended}
use Rattle.tk_lines.proofs.Sections.MiddleOfSection.{cut-covered, token}
use Rattle.tk_writers.proofs.Written.WrittenLines.{whole_line, lines-written, row_lines, next_line, cut-rows}
use Rattle.tk_writers.proofs.Written.WrittenNumbers.{one_line_append}
use Rattle.tk_lines.proofs.KnownWordLines.{OnOneLine}

-- ---- the lines of a text

pub one_line : (bs : List ℕ) → list_any (λ b. eqb b LF) bs ≡ false → OnOneLine bs
one_line [] h = tt
one_line (b ∷ bs) h = by_test (eqb b LF) refl (one_line bs) h
  where
    by_test : (t : Bool) → eqb b LF ≡ t → (list_any (λ c. eqb c LF) bs ≡ false → OnOneLine bs) →
        (t || list_any (λ c. eqb c LF) bs) ≡ false → OnOneLine (b ∷ bs)
    by_test true e ih k = absurd cc
    by_test false e ih k = (e, ih k)

pub name_line : (name : List ℕ) → All (λ b. b ≢ LF) name → OnOneLine name
name_line [] all = tt
name_line (b ∷ bs) all = (ne_eqb b LF (All-head (λ c. c ≢ LF) b bs all), name_line bs (All-tail (λ c. c ≢ LF) b bs all))

-- lines, each whole, and the number of the next
abbrev pub whole_lines : ℕ → List (List ℕ) → List Line
whole_lines n [] = []
whole_lines n (bs ∷ bss) = whole_line n bs ∷ whole_lines (suc n) bss

abbrev pub behind_lines : ℕ → List (List ℕ) → ℕ
behind_lines n [] = n
behind_lines n (bs ∷ bss) = behind_lines (suc n) bss

pub lines-listed : (n : ℕ) (bss : List (List ℕ)) (rest : List ℕ) → AllByRecursion OnOneLine bss →
    lines true n (flat_map line bss ++ rest) ≡ whole_lines n bss ++ lines true (behind_lines n bss) rest
lines-listed n [] rest h = refl
lines-listed n (bs ∷ bss) rest h =
    ap (lines true n) (append_assoc (line bs) (flat_map line bss) rest)
    ∙ lines-written n bs (flat_map line bss ++ rest) h.0
    ∙ ap (λ (ls : List Line). whole_line n bs ∷ ls) (lines-listed (suc n) bss rest h.1)

pub lines-none : (n : ℕ) → lines true n [] ≡ whole_line n [] ∷ []
unfolding lines
lines-none n = refl

-- ---- headers: the word of each, and what it says

abbrev pub Head : Type 0
Head = Keyword × List ℕ

abbrev pub head_value : Head → List ℕ
head_value h = codes " : " ++ h.1

abbrev pub head_line : Head → List ℕ
head_line h = word h.0 ++ head_value h

abbrev pub head_piece : ℕ → Head → Piece
head_piece n h = Header h.0 (token (head_value h) n)

abbrev pub head_pieces : ℕ → List Head → List Piece
head_pieces n [] = []
head_pieces n (h ∷ hs) = head_piece n h ∷ head_pieces (suc n) hs

word_line : (w : Keyword) → OnOneLine (word w)
word_line words.Name = one_line (word words.Name) refl
word_line w = one_line (word w) refl

-- a header on line n, after pieces: it is read as one, and nothing stops at it
pub record IsHead {V : Type 0} (f : Format V) (before : List Piece) (n : ℕ) (h : Head) : Type 0 where
  pub whole : OnOneLine h.1
  pub piece : (ls : List Line) →
      pieces_at f.extent before (whole_line n (head_line h)) ls (behind is_blank (head_line h)) ≡ head_piece n h ∷ []
  pub passes : stop f before (head_piece n h) ≡ None

abbrev pub AreHeads : {V : Type 0} → Format V → List Piece → ℕ → List Head → Type 0
AreHeads f before n [] = Unit {0}
AreHeads f before n (h ∷ hs) = IsHead f before n h × AreHeads f (before ++ head_piece n h ∷ []) (suc n) hs

-- the headers' lines and the line after them
pub heads_whole : {V : Type 0} (f : Format V) (before : List Piece) (n : ℕ) (hs : List Head) (last : List ℕ) →
    AreHeads f before n hs → OnOneLine last → AllByRecursion OnOneLine (map head_line hs ++ last ∷ [])
heads_whole f before n [] last are whole = (whole, tt)
heads_whole f before n (h ∷ hs) last are whole = (
  one_line_append (word h.0) (head_value h) (word_line h.0) (refl, (refl, (refl, are.0.whole))),
  heads_whole f (before ++ head_piece n h ∷ []) (suc n) hs last are.1 whole,
)

-- ---- what comes after a section

pub clean : (last : ℕ) (toks : List Token) (eof end : Token) → last < eof.line →
    after_tokens last true (get_or (toks ++ eof ∷ []) (length toks) end) ≡ Clean
clean last [] eof end lt = let later : eqb eof.line last ≡ false = ne_eqb _ _ (λ e. omega (arith, e, lt)) in
    rw later refl
clean last (t ∷ toks) eof end lt = clean last toks eof end lt

-- ---- what lines say after pieces

unfoldable pub says : {V : Type 0} → Format V → List Piece → ℕ → List Line → List Piece → Option (Result V TextFault)
says f before upto ls end = judge f before (cut f.extent before upto ls ++ end)

module _ {V : Type 0} (f : Format V) where
  pub decided-says : (bs : List ℕ) → decided_by f true bs ≡ says f [] 0 (lines true 1 bs) (end_piece (lines true 1 bs))
  unfolding decided_by says
  decided-says bs = refl

  says-header : (before : List Piece) (n : ℕ) (h : Head) (ls : List Line) (end : List Piece)
      → IsHead f before (suc n) h
      → says f before 0 (whole_line (suc n) (head_line h) ∷ ls) end
      ≡ says f (before ++ head_piece (suc n) h ∷ []) 0 ls end
  unfolding says cut judge
  says-header before n h ls end is =
      let later : leb (suc n) 0 ≡ false = lt-leb _ _ (omega arith) in
      let piece = is.piece ls in
      let none = is.passes in
      rw (later, piece, none) refl

  pub says-heads : (before : List Piece) (n : ℕ) (hs : List Head) (ls : List Line) (end : List Piece)
      → AreHeads f before (suc n) hs
      → says f before 0 (whole_lines (suc n) (map head_line hs) ++ ls) end
      ≡ says f (before ++ head_pieces (suc n) hs) 0 ls end
  says-heads before n [] ls end are = ap (λ (ps : List Piece). says f ps 0 ls end) (sym (append-nil before))
  says-heads before n (h ∷ hs) ls end are =
      says-header before n h (whole_lines (suc (suc n)) (map head_line hs) ++ ls) end are.0
      ∙ says-heads (before ++ head_piece (suc n) h ∷ []) (suc n) hs ls end are.1
      ∙ ap (λ (ps : List Piece). says f ps 0 ls end)
      (append_assoc before (head_piece (suc n) h ∷ []) (head_pieces (suc (suc n)) hs))

  pub says-section : (before : List Piece) (n : ℕ) (bs : List ℕ) (ls : List Line) (end : List Piece) (word : Keyword)
      (toks : List Token)
      → pieces_at f.extent before (whole_line (suc n) bs) ls (behind is_blank bs) ≡ Section word (suc n) toks Clean ∷ []
      → stop f before (Section word (suc n) toks Clean) ≡ None
      → says f before 0 (whole_line (suc n) bs ∷ ls) end ≡ says f (before ++ Section word (suc n) toks Clean ∷ [])
      (last_line (suc n) toks) ls end
  unfolding says cut judge
  says-section before n bs ls end word toks piece none =
      let later : leb (suc n) 0 ≡ false = lt-leb _ _ (omega arith) in
      rw (later, piece, none) refl

  -- lines that a section covers
  pub says-rows : (before : List Piece) (upto n : ℕ) (rows : List (List ℕ)) (ls : List Line) (end : List Piece) →
      next_line n rows ≤ suc upto → says f before upto (row_lines n rows ++ ls) end ≡ says f before upto ls end
  unfolding says
  says-rows before upto n rows ls end covered =
      ap (λ (ps : List Piece). judge f before (ps ++ end)) (cut-rows f.extent before upto n rows ls covered)

  pub says-covered : (before : List Piece) (upto : ℕ) (l : Line) (ls : List Line) (end : List Piece) → l.number ≤ upto →
      says f before upto (l ∷ ls) end ≡ says f before upto ls end
  unfolding says
  says-covered before upto l ls end le =
      ap (λ (ps : List Piece). judge f before (ps ++ end)) (cut-covered f.extent before upto l ls le)

  pub says-eof : (before : List Piece) (upto e : ℕ) (ls : List Line) (end : List Piece) → upto < e →
      f.at_end before ≡ None → says f before upto (whole_line e (codes "EOF") ∷ ls) end ≡ Some (Ok (f.value before))
  unfolding says cut judge keyword_of
  says-eof before upto e ls end lt none =
      let later : leb e upto ≡ false = lt-leb _ _ lt in
      rw (later, none) refl

-- ---- a text within its limit

pub read_within : {V : Type 0} (texts : Texts V TextFault) (text : List ℕ) (v : V) → length text ≤ texts.limit →
    texts.decided true text ≡ Some (Ok v) → IsReadBackAs texts text v
read_within texts text v fits said = record { fits = fits; answer = answer_ended texts text (Ok v) fits said }
