-- The name of a problem that a text says.
use Rattle.std.proofs.Common.{◌≡◌, ℕ, suc, ◌≤◌, Bool, true, false, cond, eqb, leb, ltb, not, ◌&&◌, List, [], ◌∷◌, ◌++◌}
use Rattle.std.proofs.Common.{length, take, get_or, Option, Some, None, Result, Ok, Err, refl, sym, ap, subst, ◌∙◌}
use Rattle.std.proofs.Common.{arith}
use Rattle.std.specs.Prelude.{codes, unwrap_or, All}
use Rattle.std.specs.List.{AllByRecursion}
use Rattle.std.proofs.lemmas.Bool.{eqb-false, ltb-false}
use Rattle.std.proofs.lemmas.List.Elements.{All-cons, All-nil}
use Rattle.tk_words.specs.declared.keyword.Keyword.{Keyword}
use Rattle.tk_words.specs.declared.keyword.Keyword.TheVariants as words
use Rattle.tk_words.specs.declared.keyword.Role.{Role}
use Rattle.tk_words.specs.declared.keyword.Role.TheVariants.{BeginsHeader, BeginsSection, EndsText}
use Rattle.tk_words.specs.declared.fault.TextFault.{TextFault}
use Rattle.tk_words.specs.declared.fault.TextKind.{TextKind}
use Rattle.tk_words.specs.declared.fault.TextKind.TheVariants as kinds
use Rattle.tk_words.specs.Texts.{line_behind, answer_of}
use Rattle.tk_problem.specs.declared.limits.TheConstants.{TEXT_LIMIT}
use Rattle.tk_problem_text.specs.HeaderValues.{name_of}
use Rattle.tk_words.specs.Lex.{LF, Line, Token, onto_line, lines, tokens, tokens_of, is_blank, is_letter, is_word_byte}
use Rattle.tk_words.specs.Lex.{is_empty, front, behind, after_word, without_colon_before, trim, trim_end}
use Rattle.tk_lines.specs.Pieces.{Piece, Stray, LongWord, OpenWord, Header, Section, End, Stop, Open, Fault}
use Rattle.tk_lines.specs.Pieces.{Extents, pieces_at, piece_of, piece_by, section_at, covered, cut, end_piece}
use Rattle.tk_lines.specs.Pieces.{end_token, has, pieces, value_of, stop, stopped, ended, judge, decided_by}
use Rattle.tk_problem_text.specs.Problem.{ProblemIs, problem_decided, problem_format, problem_texts, problem_value}
use Rattle.tk_problem_text.specs.Names.{IsName}
use Rattle.tk_words.specs.Words.{keyword_of, role}
use Rattle.tk_lines.proofs.EndedTexts.{all_append}
use Rattle.tk_lines.proofs.KnownWordLines.{begins_no, behind_none, OnOneLine}
use Rattle.tk_lines.proofs.Pieces.PieceValues.{value_of-append, value_of-unseen}

-- ---- a trimmed text is trimmed

begins_behind : (xs : List ℕ) → begins_no is_blank (behind is_blank xs) ≡ true
begins_behind [] = refl
begins_behind (b ∷ bs) = by_test (is_blank b) refl (begins_behind bs)
  where
    by_test : (t : Bool) → is_blank b ≡ t → begins_no is_blank (behind is_blank bs) ≡ true →
        begins_no is_blank (cond t (behind is_blank bs) (b ∷ bs)) ≡ true
    by_test true e ih = ih
    by_test false e ih = ap not e

begins_trim : (xs : List ℕ) → begins_no is_blank xs ≡ true → begins_no is_blank (trim_end xs) ≡ true
begins_trim [] h = refl
begins_trim (b ∷ bs) h = by_test (is_blank b && is_empty (trim_end bs))
  where
    by_test : (t : Bool) → begins_no is_blank (cond t [] (b ∷ trim_end bs)) ≡ true
    by_test true = refl
    by_test false = h

trim_end_twice : (xs : List ℕ) → trim_end (trim_end xs) ≡ trim_end xs
trim_end_twice [] = refl
trim_end_twice (b ∷ bs) = by_test (is_blank b && is_empty (trim_end bs)) refl (trim_end_twice bs)
  where
    by_test : (t : Bool) → (is_blank b && is_empty (trim_end bs)) ≡ t → trim_end (trim_end bs) ≡ trim_end bs →
        trim_end (cond t [] (b ∷ trim_end bs)) ≡ cond t [] (b ∷ trim_end bs)
    by_test true e ih = refl
    by_test false e ih = ap (λ (r : List ℕ). cond (is_blank b && is_empty r) [] (b ∷ r)) ih
        ∙ ap (λ t. cond t [] (b ∷ trim_end bs)) e

trim_twice : (xs : List ℕ) → trim (trim xs) ≡ trim xs
trim_twice xs = ap trim_end (behind_none is_blank (trim xs) (begins_trim (behind is_blank xs) (begins_behind xs)))
    ∙ trim_end_twice (behind is_blank xs)

-- ---- parts of a line are on one line

behind_line : (p : ℕ → Bool) (xs : List ℕ) → OnOneLine xs → OnOneLine (behind p xs)
behind_line p [] h = tt
behind_line p (b ∷ bs) h = by_test (p b) (behind_line p bs h.1)
  where
    by_test : (t : Bool) → OnOneLine (behind p bs) → OnOneLine (cond t (behind p bs) (b ∷ bs))
    by_test true ih = ih
    by_test false ih = h

colon_line : (xs : List ℕ) → OnOneLine xs → OnOneLine (without_colon_before xs)
colon_line [] h = tt
colon_line (b ∷ bs) h = by_test (eqb b 58)
  where
    by_test : (t : Bool) → OnOneLine (cond t bs (b ∷ bs))
    by_test true = h.1
    by_test false = h

trim_line : (xs : List ℕ) → OnOneLine xs → OnOneLine (trim_end xs)
trim_line [] h = tt
trim_line (b ∷ bs) h = by_test (is_blank b && is_empty (trim_end bs)) (trim_line bs h.1)
  where
    by_test : (t : Bool) → OnOneLine (trim_end bs) → OnOneLine (cond t [] (b ∷ trim_end bs))
    by_test true ih = tt
    by_test false ih = (h.0, ih)

no_ends : (xs : List ℕ) → OnOneLine xs → All (λ b. b ≡ LF → ⊥) xs
no_ends [] h = All-nil (λ b. b ≡ LF → ⊥)
no_ends (b ∷ bs) h = All-cons (λ b. b ≡ LF → ⊥) b bs (eqb-false b LF h.0) (no_ends bs h.1)

-- ---- a header's name

unnamed : IsName (codes "Unnamed")
unnamed =
    record {
      some = refl;
      short = omega arith;
      one_line = no_ends (codes "Unnamed") (
        refl,
        (refl, (refl, (refl, (refl, (refl, (refl, tt)))))),
      );
      trimmed = refl;
    }

name_given : (v : List ℕ) → OnOneLine v → length (trim (after_word v)) ≤ 1024 → IsName (name_of v)
name_given v line short = by_test (is_empty (trim (after_word v))) refl
  where
    by_test : (t : Bool) → is_empty (trim (after_word v)) ≡ t → IsName (cond t (codes "Unnamed") (trim (after_word v)))
    by_test true e = unnamed
    by_test false e = record {
      some = e;
      short = short;
      one_line =
          no_ends (trim (after_word v))
          (trim_line (behind is_blank (after_word v))
          (behind_line is_blank (after_word v) (colon_line (behind is_blank v) (behind_line is_blank v line))));
      trimmed = trim_twice (after_word v);
    }

-- ---- the headers of a text are on one line each

abbrev IsOnLine : Line → Type 0
IsOnLine l = OnOneLine l.bytes

onto_on_line : (b : ℕ) (ls : List Line) → eqb b LF ≡ false → AllByRecursion IsOnLine ls →
    AllByRecursion IsOnLine (onto_line b ls)
onto_on_line b [] other h = tt
onto_on_line b (l ∷ ls) other h = ((other, h.0), h.1)

lines_on_line : (e : Bool) (bs : List ℕ) (n : ℕ) → AllByRecursion IsOnLine (lines e n bs)
unfolding lines
lines_on_line e [] n = (tt, tt)
lines_on_line e (b ∷ bs) n = by_test (eqb b LF) refl (lines_on_line e bs)
  where
    by_test : (t : Bool) → eqb b LF ≡ t → ((m : ℕ) → AllByRecursion IsOnLine (lines e m bs))
        → AllByRecursion IsOnLine
        (cond t (record { number = n; bytes = []; whole = true } ∷ lines e (cond t (suc n) n) bs)
        (onto_line b (lines e (cond t (suc n) n) bs)))
    by_test true is ih = (tt, ih (suc n))
    by_test false is ih = onto_on_line b (lines e n bs) is (ih n)

abbrev HeaderOnLine : Piece → Type 0
HeaderOnLine (Header word v) = OnOneLine v.bytes
HeaderOnLine _ = Unit {0}

abbrev HeadersOnLines : List Piece → Type 0
HeadersOnLines ps = AllByRecursion HeaderOnLine ps

section_headers : (extent : Extents) (before : List Piece) (word : Keyword) (n : ℕ) (toks : List Token) (end : Token) →
    HeadersOnLines (section_at extent before word n toks end)
section_headers extent before word n toks end =
    (tt, by_test (get_or toks (extent before word toks).count end).line (extent before word toks).at_eof)
  where
    by_test : (line : ℕ) (t : Bool) → HeadersOnLines (cond t (End line true ∷ []) [])
    by_test line true = (tt, tt)
    by_test line false = tt

piece_headers : (extent : Extents) (before : List Piece) (l : Line) (ls : List Line) (tail : List ℕ) (word : Keyword)
    (r : Role) → OnOneLine tail → HeadersOnLines (piece_by extent before l ls tail word r)
piece_headers extent before l ls tail word BeginsHeader h = (h, tt)
piece_headers extent before l ls tail word BeginsSection h =
    section_headers extent before word l.number (tokens_of l.whole l.number (after_word tail) ++ tokens ls)
    (end_token l ls)
piece_headers extent before l ls tail word EndsText h = (tt, tt)

word_headers : (extent : Extents) (before : List Piece) (l : Line) (ls : List Line) (tail : List ℕ)
    (w : Option Keyword) → OnOneLine tail → HeadersOnLines (piece_of extent before l ls tail w)
word_headers extent before l ls tail None h = (tt, tt)
word_headers extent before l ls tail (Some word) h = piece_headers extent before l ls tail word (role word) h

line_headers : (extent : Extents) (before : List Piece) (l : Line) (ls : List Line) (bs : List ℕ) → OnOneLine bs →
    HeadersOnLines (pieces_at extent before l ls bs)
line_headers extent before l ls [] h = tt
line_headers extent before l ls (b ∷ bs) h =
    by_tests (not (is_letter b)) (ltb 64 (length (front is_word_byte (b ∷ bs))))
    (not l.whole && is_empty (behind is_word_byte (b ∷ bs)))
    (piece_of extent before l ls (behind is_word_byte (b ∷ bs)) (keyword_of (front is_word_byte (b ∷ bs))))
    (word_headers extent before l ls (behind is_word_byte (b ∷ bs)) (keyword_of (front is_word_byte (b ∷ bs)))
    (behind_line is_word_byte (b ∷ bs) h))
  where
    by_tests : (r s t : Bool) (ps : List Piece) → HeadersOnLines ps →
        HeadersOnLines (cond r (Stray l.number ∷ [])
        (cond s (LongWord l.number ∷ []) (cond t (OpenWord l.number ∷ []) ps)))
    by_tests false false false ps k = k
    by_tests _ _ _ ps k = (tt, tt)

cut_headers : (extent : Extents) (before : List Piece) (upto : ℕ) (ls : List Line) → AllByRecursion IsOnLine ls →
    HeadersOnLines (cut extent before upto ls)
unfolding cut
cut_headers extent before upto [] h = tt
cut_headers extent before upto (l ∷ ls) h =
    let new : List Piece = cond (leb l.number upto) [] (pieces_at extent before l ls (behind is_blank l.bytes)) in
    all_append HeaderOnLine new (cut extent (before ++ new) (covered upto new) ls)
    (by_test (leb l.number upto)
    (line_headers extent before l ls (behind is_blank l.bytes) (behind_line is_blank l.bytes h.0)))
    (cut_headers extent (before ++ new) (covered upto new) ls h.1)
  where
    by_test : (t : Bool) → HeadersOnLines (pieces_at extent before l ls (behind is_blank l.bytes)) →
        HeadersOnLines (cond t [] (pieces_at extent before l ls (behind is_blank l.bytes)))
    by_test true k = tt
    by_test false k = k

end_headers : (ls : List Line) → HeadersOnLines (end_piece ls)
end_headers [] = tt
end_headers (l ∷ ls) = (tt, tt)

-- ---- what is judged

-- the first name header's value gives a name
abbrev NameGiven : Option (List ℕ) → Type 0
NameGiven None = Unit {0}
NameGiven (Some v) = IsName (name_of v)

named : (o : Option (List ℕ)) → NameGiven o → IsName (name_of (unwrap_or o []))
named None h = unnamed
named (Some v) h = h

two_fail : (long part a b : Bool) (s t u w : Stop) →
    cond long (Some s) (cond part (Some t) (cond a (Some u) (cond b (Some w) None))) ≡ None → (a ≡ false) × (b ≡ false)
two_fail false false false false s t u w h = (refl, refl)
two_fail _ _ _ _ s t u w h = absurd cc

same_name : (before qs : List Piece) → value_of words.Name qs ≡ None → NameGiven (value_of words.Name before) →
    NameGiven (value_of words.Name (before ++ qs))
same_name before qs none h = subst NameGiven (sym (value_of-append words.Name before qs none)) h

header_name : (before : List Piece) (word : Keyword) (v : Token) → NameGiven (value_of words.Name before)
    → OnOneLine v.bytes → stop problem_format before (Header word v) ≡ None
    → NameGiven (value_of words.Name (before ++ Header word v ∷ []))
header_name before words.Name v h line none =
    let tests = two_fail (ltb 4096 (length v.bytes)) (not v.whole) (ltb 1024 (length (trim (after_word v.bytes))))
    (has words.Name before)
    (Fault v.line kinds.TooLong) Open (Fault v.line kinds.TooLong) (Fault v.line kinds.Repeated) none in
    let short : length (trim (after_word v.bytes)) ≤ 1024 = ltb-false _ _ tests.0 in
    subst NameGiven (sym (value_of-unseen words.Name before (Header words.Name v ∷ []) tests.1))
    (name_given v.bytes line short)
header_name before word v h line none = same_name before (Header word v ∷ []) refl h

passed : (v : ProblemIs) (s : Option Stop) (r : Option (Result ProblemIs TextFault)) → stopped s r ≡ Some (Ok v) →
    (s ≡ None) × (r ≡ Some (Ok v))
passed v None r h = (refl, h)
passed v (Some Open) r h = absurd cc
passed v (Some (Fault line kind)) r h = absurd cc

at_end : (before : List Piece) (v : ProblemIs) (line : ℕ) (w : Bool) (k : Option TextKind) →
    NameGiven (value_of words.Name before) → ended problem_format before line w k ≡ Some (Ok v) → IsName v.name
at_end before v line false k h e = absurd cc
at_end before v line true (Some kind) h e = absurd cc
at_end before v line true None h e =
    let same : problem_value before ≡ v = cc in
    subst (λ (p : ProblemIs). IsName p.name) same (named (value_of words.Name before) h)

judged : (ps before : List Piece) (v : ProblemIs) → NameGiven (value_of words.Name before) → HeadersOnLines ps →
    judge problem_format before ps ≡ Some (Ok v) → IsName v.name
unfolding judge
judged (End line w ∷ ps) before v h hs e = at_end before v line w (problem_format.at_end before) h e
judged (Header word value ∷ ps) before v h hs e =
    let goes =
    passed v (stop problem_format before (Header word value))
    (judge problem_format (before ++ Header word value ∷ []) ps) e in
    judged ps (before ++ Header word value ∷ []) v (header_name before word value h hs.0 goes.0) hs.1 goes.1
judged (Section word n toks after ∷ ps) before v h hs e =
    let goes =
    passed v (stop problem_format before (Section word n toks after))
    (judge problem_format (before ++ Section word n toks after ∷ []) ps) e in
    judged ps (before ++ Section word n toks after ∷ []) v
    (same_name before (Section word n toks after ∷ []) refl h) hs.1 goes.1
judged _ before v h hs e = absurd cc

decided_name : (e : Bool) (bs : List ℕ) (v : ProblemIs) → problem_decided e bs ≡ Some (Ok v) → IsName v.name
unfolding decided_by
decided_name e bs v h =
    judged (pieces problem_format.extent (lines e 1 bs)) [] v tt
    (all_append HeaderOnLine (cut problem_format.extent [] 0 (lines e 1 bs)) (end_piece (lines e 1 bs))
    (cut_headers problem_format.extent [] 0 (lines e 1 bs) (lines_on_line e bs 1)) (end_headers (lines e 1 bs))) h

answered : (o : Option (Result ProblemIs TextFault)) (f : TextFault) (v : ProblemIs) → unwrap_or o (Err f) ≡ Ok v →
    o ≡ Some (Ok v)
answered None f v h = absurd cc
answered (Some a) f v h = ap Some h

-- the name of a problem that a text says is one
pub name_answered : (text : List ℕ) (v : ProblemIs) → answer_of problem_texts text ≡ Ok v →
    IsName v.name
unfolding answer_of
name_answered text v h = by_length (leb (length text) TEXT_LIMIT) h
  where
    by_length : (t : Bool) →
        unwrap_or (cond t (problem_decided true text) (problem_decided false (take (suc TEXT_LIMIT) text)))
        (Err (record { line = line_behind (take TEXT_LIMIT text); kind = kinds.TooLong })) ≡ Ok v → IsName v.name
    by_length true e = decided_name true text v (answered (problem_decided true text) _ v e)
    by_length false e =
        decided_name false (take (suc TEXT_LIMIT) text) v
        (answered (problem_decided false (take (suc TEXT_LIMIT) text)) _ v e)
