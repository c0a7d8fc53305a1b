-- A text that has ended has an answer.
use Rattle.std.proofs.Common.{◌≡◌, ℕ, zero, suc, Bool, true, false, cond, eqb, leb, ltb, not, ◌&&◌, List, [], ◌∷◌, ◌++◌}
use Rattle.std.proofs.Common.{length, take, get_or, Option, Some, None, Result, refl, ap}
use Rattle.std.specs.List.{AllByRecursion}
use Rattle.std.specs.Option.{IsSome}
use Rattle.tk_words.specs.declared.keyword.Keyword.{Keyword}
use Rattle.tk_words.specs.declared.keyword.Role.{Role}
use Rattle.tk_words.specs.declared.keyword.Role.TheVariants.{BeginsHeader, BeginsSection, EndsText}
use Rattle.tk_words.specs.declared.fault.TextKind.{TextKind}
use Rattle.tk_words.specs.declared.fault.TextKind.TheVariants as kinds
use Rattle.tk_words.specs.declared.fault.TextFault.{TextFault}
use Rattle.tk_words.specs.Lex.{LF, Line, Token, onto_line, onto_token, goes_on, lines, tokens, tokens_of, is_blank}
use Rattle.tk_words.specs.Lex.{is_letter, is_word_byte, is_empty, front, behind, after_word}
use Rattle.tk_words.specs.MinusOne.{is_ending}
use Rattle.tk_words.specs.TextLaws.{HasAnswers}
use Rattle.tk_words.specs.Words.{keyword_of, role}
use Rattle.tk_lines.specs.Lists.{list_entries, trailing_stop}
use Rattle.tk_lines.specs.Pieces.{After, Clean, Piece, Stray, LongWord, OpenWord, Header, Section, End, Extents, Stop}
use Rattle.tk_lines.specs.Pieces.{Open, Fault, Format, section_at, piece_by, piece_of, pieces_at, covered, cut}
use Rattle.tk_lines.specs.Pieces.{end_token, first_at, checked, or_else, ended, stopped, judge, decided_by}
use Rattle.tk_lines.specs.Reader.FromMiddle.{ending}
use Rattle.tk_lines.proofs.MiddleOfLine.{lines_cons}

-- ---- what holds of all

pub all_append : {X : Type 0} (P : X → Type 0) (xs ys : List X) → AllByRecursion P xs → AllByRecursion P ys →
    AllByRecursion P (xs ++ ys)
all_append P [] ys h k = k
all_append P (x ∷ xs) ys h k = (h.0, all_append P xs ys h.1 k)

pub all_taken : {X : Type 0} (P : X → Type 0) (k : ℕ) (xs : List X) → AllByRecursion P xs → AllByRecursion P (take k xs)
all_taken P zero xs h = tt
all_taken P (suc k) [] h = tt
all_taken P (suc k) (x ∷ xs) h = (h.0, all_taken P k xs h.1)

-- ---- lines and tokens that have ended

abbrev pub AreWhole : List Line → Type 0
AreWhole ls = AllByRecursion (λ (l : Line). l.whole ≡ true) ls

abbrev IsWhole : Token → Type 0
IsWhole t = t.whole ≡ true

abbrev pub WholeTokens : List Token → Type 0
WholeTokens ts = AllByRecursion IsWhole ts

onto_whole : (b : ℕ) (ls : List Line) → AreWhole ls → AreWhole (onto_line b ls)
onto_whole b [] h = tt
onto_whole b (l ∷ ls) h = h

pub whole_lines : (bs : List ℕ) (n : ℕ) → AreWhole (lines true n bs)
unfolding lines
whole_lines [] n = (refl, tt)
whole_lines (b ∷ bs) n = by_lf (eqb b LF) (λ m. whole_lines bs m)
  where
    by_lf : (t : Bool) → ((m : ℕ) → AreWhole (lines true m bs)) →
        AreWhole (cond t (record { number = n; bytes = []; whole = true } ∷ lines true (cond t (suc n) n) bs)
        (onto_line b (lines true (cond t (suc n) n) bs)))
    by_lf true ih = (refl, ih (suc n))
    by_lf false ih = onto_whole b (lines true n bs) (ih n)

onto_whole_token : (b : ℕ) (ts : List Token) → WholeTokens ts → WholeTokens (onto_token b ts)
onto_whole_token b [] h = tt
onto_whole_token b (t ∷ ts) h = h

pub whole_tokens_of : (n : ℕ) (bs : List ℕ) → WholeTokens (tokens_of true n bs)
unfolding tokens_of
whole_tokens_of n [] = tt
whole_tokens_of n (b ∷ bs) = by_tests (is_blank b) (goes_on bs) (whole_tokens_of n bs)
  where
    by_tests : (s g : Bool) → WholeTokens (tokens_of true n bs) →
        WholeTokens (cond s (tokens_of true n bs)
        (cond g (onto_token b (tokens_of true n bs)) (record { bytes = b ∷ []; line = n; whole = true }
        ∷ tokens_of true n bs)))
    by_tests true g h = h
    by_tests false true h = onto_whole_token b (tokens_of true n bs) h
    by_tests false false h = (refl, h)

whole_line_tokens : (w : Bool) (n : ℕ) (bs : List ℕ) → w ≡ true → WholeTokens (tokens_of w n bs)
whole_line_tokens true n bs h = whole_tokens_of n bs
whole_line_tokens false n bs h = absurd cc

whole_tokens : (ls : List Line) → AreWhole ls → WholeTokens (tokens ls)
whole_tokens [] h = tt
whole_tokens (l ∷ ls) h =
    all_append IsWhole (tokens_of l.whole l.number l.bytes) (tokens ls)
    (whole_line_tokens l.whole l.number l.bytes h.0) (whole_tokens ls h.1)

pub whole_entries : (ts : List Token) → WholeTokens ts → WholeTokens (list_entries ts)
unfolding list_entries
whole_entries [] h = tt
whole_entries (t ∷ ts) h = by_end (is_ending t) (whole_entries ts h.1)
  where
    by_end : (e : Bool) → WholeTokens (list_entries ts) → WholeTokens (cond e [] (t ∷ list_entries ts))
    by_end true k = tt
    by_end false k = (h.0, k)

end_whole : (l : Line) (ls : List Line) → l.whole ≡ true → AreWhole ls → (end_token l ls).whole ≡ true
end_whole l [] h k = h
end_whole l (m ∷ ls) h k = end_whole m ls k.0 k.1

-- ---- stops for which no more bytes are wanted

abbrev pub NotOpen : Option Stop → Type 0
NotOpen (Some Open) = ⊥
NotOpen _ = Unit {0}

pub not_open_first : (n : ℕ) (tests : List (Bool × TextKind)) → NotOpen (first_at n tests)
not_open_first n [] = tt
not_open_first n (t ∷ ts) = by_test t.0 (not_open_first n ts)
  where
    by_test : (b : Bool) → NotOpen (first_at n ts) → NotOpen (cond b (Some (Fault n t.1)) (first_at n ts))
    by_test true h = tt
    by_test false h = h

pub not_open_or : (x y : Option Stop) → NotOpen x → NotOpen y → NotOpen (or_else x y)
not_open_or None y h k = k
not_open_or (Some Open) y h k = h
not_open_or (Some (Fault n kind)) y h k = tt

pub not_open_checked : (limit : ℕ) (t : Token) (tests : List (Bool × TextKind)) → t.whole ≡ true →
    NotOpen (checked limit t tests)
not_open_checked limit t tests h = by_tests (ltb limit (length t.bytes)) (not t.whole) (ap not h)
  where
    by_tests : (long wait : Bool) → wait ≡ false →
        NotOpen (cond long (Some (Fault t.line kinds.TooLong)) (cond wait (Some Open) (first_at t.line tests)))
    by_tests true wait e = tt
    by_tests false true e = absurd cc
    by_tests false false e = not_open_first t.line tests

pub not_open_trailing : (after : After) → NotOpen (trailing_stop after)
not_open_trailing Clean = tt
not_open_trailing _ = tt

pub some_stopped : {V : Type 0} (s : Option Stop) (x : Option (Result V TextFault)) → NotOpen s → IsSome x →
    IsSome (stopped s x)
some_stopped None x h k = k
some_stopped (Some Open) x h k = absurd h
some_stopped (Some (Fault n kind)) x h k = refl

-- ---- pieces that have ended

abbrev IsClosed : Piece → Type 0
IsClosed (OpenWord line) = ⊥
IsClosed (Header word value) = value.whole ≡ true
IsClosed (Section word line toks after) = WholeTokens toks
IsClosed (End line whole) = whole ≡ true
IsClosed _ = Unit {0}

abbrev AreClosed : List Piece → Type 0
AreClosed ps = AllByRecursion IsClosed ps

module _ (extent : Extents) (before : List Piece) (l : Line) (ls : List Line) (whole : l.whole ≡ true)
    (rest : AreWhole ls) where
  closed_section : (word : Keyword) (toks : List Token) → WholeTokens toks →
      AreClosed (section_at extent before word l.number toks (end_token l ls))
  closed_section word toks h =
      (all_taken IsWhole (extent before word toks).count toks h, by_eof (extent before word toks).at_eof)
    where
      by_eof : (b : Bool) →
          AreClosed (cond b (End (get_or toks (extent before word toks).count (end_token l ls)).line true ∷ []) [])
      by_eof true = (refl, tt)
      by_eof false = tt

  closed_by : (tail : List ℕ) (word : Keyword) (r : Role) → AreClosed (piece_by extent before l ls tail word r)
  closed_by tail word BeginsHeader = (whole, tt)
  closed_by tail word BeginsSection =
      closed_section word (tokens_of l.whole l.number (after_word tail) ++ tokens ls)
      (all_append IsWhole (tokens_of l.whole l.number (after_word tail)) (tokens ls)
      (whole_line_tokens l.whole l.number (after_word tail) whole) (whole_tokens ls rest))
  closed_by tail word EndsText = (refl, tt)

  closed_of : (tail : List ℕ) (word : Option Keyword) → AreClosed (piece_of extent before l ls tail word)
  closed_of tail None = (tt, tt)
  closed_of tail (Some word) = closed_by tail word (role word)

  closed_at : (bs : List ℕ) → AreClosed (pieces_at extent before l ls bs)
  closed_at [] = tt
  closed_at (b ∷ bs) = by_tests (not (is_letter b)) (ltb 64 (length (front is_word_byte (b ∷ bs))))
      (not l.whole && is_empty (behind is_word_byte (b ∷ bs)))
      (ap (λ (w : Bool). not w && is_empty (behind is_word_byte (b ∷ bs))) whole)
    where
      by_tests : (stray long wait : Bool) → wait ≡ false
          → AreClosed
          (cond stray (Stray l.number ∷ [])
          (cond long (LongWord l.number ∷ [])
          (cond wait (OpenWord l.number ∷ [])
          (piece_of extent before l ls (behind is_word_byte (b ∷ bs)) (keyword_of (front is_word_byte (b ∷ bs)))))))
      by_tests false false true e = absurd cc
      by_tests false false false e = closed_of (behind is_word_byte (b ∷ bs)) (keyword_of (front is_word_byte (b ∷ bs)))
      by_tests _ _ wait e = (tt, tt)

closed_cut : (extent : Extents) (before : List Piece) (upto : ℕ) (ls : List Line) → AreWhole ls →
    AreClosed (cut extent before upto ls)
unfolding cut
closed_cut extent before upto [] h = tt
closed_cut extent before upto (l ∷ ls) h =
    let new : List Piece = cond (leb l.number upto) [] (pieces_at extent before l ls (behind is_blank l.bytes)) in
    all_append IsClosed new (cut extent (before ++ new) (covered upto new) ls) (by_test (leb l.number upto))
    (closed_cut extent (before ++ new) (covered upto new) ls h.1)
  where
    by_test : (t : Bool) → AreClosed (cond t [] (pieces_at extent before l ls (behind is_blank l.bytes)))
    by_test true = tt
    by_test false = closed_at extent before l ls h.0 h.1 (behind is_blank l.bytes)

-- ---- the answer

-- no section of a format whose tokens have ended waits for more
abbrev pub AnswersSections : {V : Type 0} → Format V → Type 0
AnswersSections f = (before : List Piece) (word : Keyword) (n : ℕ) (toks : List Token) (after : After) →
    WholeTokens toks → NotOpen (f.section before word n toks after)

module _ {V : Type 0} (f : Format V) (answers : AnswersSections f) where
  some_end : (before : List Piece) (line : ℕ) (w : Bool) (kind : Option TextKind) → w ≡ true →
      IsSome (ended f before line w kind)
  some_end before line true None h = refl
  some_end before line true (Some kind) h = refl
  some_end before line false kind h = absurd cc

  some_judged : (before ps : List Piece) (e : Token) → e.whole ≡ true → AreClosed ps →
      IsSome (judge f before (ps ++ ending e))
  unfolding judge
  some_judged before [] e h k = some_end before e.line e.whole (f.at_end before) h
  some_judged before (OpenWord line ∷ ps) e h k = absurd k.0
  some_judged before (Header word value ∷ ps) e h k =
      some_stopped (checked 4096 value (f.header before word value.bytes))
      (judge f (before ++ Header word value ∷ []) (ps ++ ending e))
      (not_open_checked 4096 value (f.header before word value.bytes) k.0)
      (some_judged (before ++ Header word value ∷ []) ps e h k.1)
  some_judged before (Section word line toks after ∷ ps) e h k =
      some_stopped (f.section before word line toks after)
      (judge f (before ++ Section word line toks after ∷ []) (ps ++ ending e))
      (answers before word line toks after k.0)
      (some_judged (before ++ Section word line toks after ∷ []) ps e h k.1)
  some_judged before (End line whole ∷ ps) e h k = some_end before line whole (f.at_end before) k.0
  some_judged before (_ ∷ ps) e h k = refl

  pub some_decided : HasAnswers (decided_by f)
  unfolding decided_by
  some_decided text =
      let c = lines_cons true text 1 in
      let h = whole_lines text 1 in
      let k : AreWhole (c.first ∷ c.rest) = rw c.is at h in
      rw c.is
      (some_judged [] (cut f.extent [] 0 (c.first ∷ c.rest)) (end_token c.first c.rest)
      (end_whole c.first c.rest k.0 k.1) (closed_cut f.extent [] 0 (c.first ∷ c.rest) k))
