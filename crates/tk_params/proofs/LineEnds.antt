-- How a line of a parameter file ends.
use Rattle.std.proofs.Common.{◌≡◌, ℕ, suc, ◌-◌, ◌<◌, ◌≤◌, Bool, true, false, cond, eqb, leb, ltb, not, ◌&&◌, ◌||◌, List}
use Rattle.std.proofs.Common.{[], ◌∷◌, ◌++◌, length, Option, Some, None, Err, refl, sym, ap, ◌∙◌, arith}
use Rattle.std.proofs.lemmas.Bool.{eqb-true, ltb-true, ltb-false, lt-ltb, le-ltb, le-leb, and_parts, and_from, and_left}
use Rattle.std.proofs.lemmas.Bool.{or_right, not-true, false_from_ne_true, cond-true, cond-false}
use Rattle.std.proofs.lemmas.List.{append-nil, length-append}
use Rattle.std.specs.Char.{to_ascii_uppercase}
use Rattle.std.specs.List.{list_all}
use Rattle.std.specs.Prelude.{codes}
use Rattle.tk_words.proofs.BoolLaws.{and_false}
use Rattle.tk_words.specs.Words.{spells}
use Rattle.tk_lines.proofs.Sections.SectionEnds.{first_line}
use Rattle.tk_lines.proofs.KnownWordLines.{begins_no, behind_none}
use Rattle.tk_lines.proofs.MiddleOfLine.{prepend-nil, prepend-onto, lines-byte, lines-LF, lines_cons}
use Rattle.tk_lines.proofs.Headers.ByteRuns.{behind-all, behind-on, front-all, front-on, front-whole}
use Rattle.tk_words.specs.Lex.{LF, Line, is_letter, is_blank, is_word_byte, is_empty, front, behind, lines}
use Rattle.tk_lines.specs.Reader.FromMiddle.{prepend}
use Rattle.tk_lines.specs.Reader.ValueScanner.{IsEmpty}
use Rattle.tk_params.specs.declared.fault.ParamKind.{ParamKind}
use Rattle.tk_params.specs.declared.fault.ParamKind.TheVariants as kinds
use Rattle.tk_params.specs.Reader.Lines.{IsFaultless}
use Rattle.tk_params.specs.Reader.Places.{ends_in, params_from_line}
use Rattle.tk_params.specs.Entries.{Entry, entry_of}
use Rattle.tk_params.specs.Values.{Settings, Meaning, Faulty, means, line_means, settings_of}
use Rattle.tk_params.specs.Params.{Answer, Piece, LongLine, End, Open, Holds, after, answer_at_end, behind_word}
use Rattle.tk_params.specs.Params.{counted}
use Rattle.tk_params.specs.Params.{is_end, spells_eof, judge_params, line_limit, param_pieces, word_of}

-- ---- EOF

capital : (b k : ℕ) → is_word_byte k ≡ true → k < 91 → to_ascii_uppercase b ≡ k → is_word_byte b ≡ true
capital b k w lt h = by_tests (ltb b 97) refl (ltb b 123) refl
  where
    by_tests : (s : Bool) → ltb b 97 ≡ s → (t : Bool) → ltb b 123 ≡ t → is_word_byte b ≡ true
    by_tests true p t q = let e : b ≡ k = (rw p at h) in rw e w
    by_tests false p true q =
        let letter : is_letter b ≡ true = or_right (leb 65 b && leb b 90)
        _ (and_from _ _ (le-leb 97 b (ltb-false _ _ p)) (le-leb b 122 (omega (arith, ltb-true _ _ q)))) in
        rw letter refl
    by_tests false p false q = let e : b ≡ k = (rw (p, q) at h) in absurd (omega (arith, ltb-false _ _ q, e))

-- bytes that spell EOF are one word
record IsWord (w : List ℕ) : Type 0 where
  pub word : behind is_word_byte w ≡ []
  pub some : IsEmpty w → ⊥

spelled : (w text : List ℕ) → list_all (λ k. is_word_byte k && ltb k 91) text ≡ true → spells w text ≡ true →
    behind is_word_byte w ≡ []
spelled [] text c h = refl
spelled (b ∷ w) [] c h = absurd cc
spelled (b ∷ w) (k ∷ text) c h =
    let same = and_parts (eqb (to_ascii_uppercase b) k) _ h in
    let all = and_parts (is_word_byte k && ltb k 91) _ c in
    let one = and_parts (is_word_byte k) _ all.0 in
    rw (capital b k one.0 (ltb-true _ _ one.1) (eqb-true _ _ same.0)) (spelled w text all.1 same.1)

eof_word : (w : List ℕ) → spells_eof w ≡ true → IsWord w
eof_word [] h = absurd cc
eof_word (b ∷ w) h = record { word = spelled (b ∷ w) (codes "EOF") refl h; some = λ e. e }

-- ---- one byte more

front_none : (xs : List ℕ) → begins_no is_word_byte xs ≡ true → front is_word_byte xs ≡ []
front_none [] h = refl
front_none (b ∷ bs) h = rw (not-true _ h) refl

not_none : (h : List ℕ) (c : ℕ) (cs : List ℕ) → h ≡ c ∷ cs → IsEmpty h → ⊥
not_none [] c cs e = absurd cc
not_none (x ∷ xs) c cs e = λ k. k

one_byte : (b : ℕ) (s t : Bool) → (spells_eof (front is_word_byte (cond s [] (b ∷ []))) && t) ≡ false
one_byte b true t = refl
one_byte b false t = by_test (is_word_byte b)
  where
    by_test : (w : Bool) → (spells_eof (cond w (b ∷ []) []) && t) ≡ false
    by_test true = and_left _ t (and_false (eqb (to_ascii_uppercase b) 69))
    by_test false = refl

on_word : (h : List ℕ) (b : ℕ) → (spells_eof h ≡ true → is_word_byte b ≡ true) →
    (spells_eof (h ++ front is_word_byte (b ∷ [])) && not (is_empty (behind is_word_byte (b ∷ [])))) ≡ false
on_word h b k = by_test (is_word_byte b) refl
  where
    by_test : (w : Bool) → is_word_byte b ≡ w →
        (spells_eof (h ++ cond w (b ∷ []) []) && not (is_empty (cond w [] (b ∷ [])))) ≡ false
    by_test true e = and_false _
    by_test false e =
        and_left _ true (rw (append-nil h) (false_from_ne_true (spells_eof h) (λ t. let j = k t in absurd cc)))

shorter_step : (t : Bool) (x : ℕ) (xs ys : List ℕ) → length ys ≤ length xs →
    length (cond t ys (x ∷ xs)) ≤ suc (length xs)
shorter_step true x xs ys h = omega (arith, h)
shorter_step false x xs ys h = omega arith

shorter : (p : ℕ → Bool) (xs : List ℕ) → length (behind p xs) ≤ length xs
shorter p [] = omega arith
shorter p (x ∷ xs) = shorter_step (p x) x xs (behind p xs) (shorter p xs)

-- the word of a line and what comes after it, with more bytes: these begin after blanks alone, or go on where a word
-- ends, or come later
pub data Goes (pre x : List ℕ) : Type 0 where
  Before : behind_word pre ≡ [] → word_of (pre ++ x) ≡ word_of x → behind_word (pre ++ x) ≡ behind_word x → Goes pre x
  Within : behind_word pre ≡ [] → word_of (pre ++ x) ≡ behind is_blank pre ++ front is_word_byte x →
      behind_word (pre ++ x) ≡ behind is_word_byte x → Goes pre x
  Behind : (d : ℕ) (ds : List ℕ) → behind_word pre ≡ d ∷ ds → word_of (pre ++ x) ≡ word_of pre →
      behind_word (pre ++ x) ≡ d ∷ (ds ++ x) → Goes pre x

pub goes : (pre x : List ℕ) → Goes pre x
goes pre x = by_held (behind is_blank pre) refl (behind_word pre) refl
  where
    by_held : (h : List ℕ) → behind is_blank pre ≡ h → (r : List ℕ) → behind_word pre ≡ r → Goes pre x
    by_held [] e r f = let all = behind-all is_blank pre x e in
        Before (ap (behind is_word_byte) e) (ap (front is_word_byte) all) (ap (behind is_word_byte) all)
    by_held (c ∷ cs) e [] f =
        let on = behind-on is_blank pre x (not_none _ c cs e) in
        Within f (ap (front is_word_byte) on ∙ front-all is_word_byte (behind is_blank pre) x f)
        (ap (behind is_word_byte) on ∙ behind-all is_word_byte (behind is_blank pre) x f)
    by_held (c ∷ cs) e (d ∷ ds) f =
        let on = behind-on is_blank pre x (not_none _ c cs e) in
        let more = not_none _ d ds f in
        Behind d ds f (ap (front is_word_byte) on ∙ front-on is_word_byte (behind is_blank pre) x more)
        (ap (behind is_word_byte) on ∙ behind-on is_word_byte (behind is_blank pre) x more
        ∙ ap (λ (z : List ℕ). z ++ x) f)

module _ (pre : List ℕ) (none : ends_in pre ≡ false) where
  past_word : (d : ℕ) (ds : List ℕ) → behind_word pre ≡ d ∷ ds → spells_eof (word_of pre) ≡ false
  past_word d ds e = false_from_ne_true _ (λ t. let j = rw (e, t) at none in absurd cc)

  pub push_open : (b : ℕ) → (spells_eof (behind is_blank pre) ≡ true → is_word_byte b ≡ true) →
      ends_in (pre ++ b ∷ []) ≡ false
  push_open b k = by_word (goes pre (b ∷ []))
    where
      by_word : Goes pre (b ∷ []) → ends_in (pre ++ b ∷ []) ≡ false
      by_word (Before e word rest) =
          rw (word, rest)
          (one_byte b (is_blank b) (not (is_empty (behind is_word_byte (cond (is_blank b) [] (b ∷ []))))))
      by_word (Within e word rest) = rw (word, rest) (on_word (behind is_blank pre) b k)
      by_word (Behind d ds e word rest) = rw word (and_left _ _ (past_word d ds e))

  -- an EOF that ends later has its end among the later bytes
  late : (x : List ℕ) → spells_eof (word_of (pre ++ x)) ≡ true → length (behind_word (pre ++ x)) ≤ length x
  late x k = by_word (goes pre x)
    where
      by_word : Goes pre x → length (behind_word (pre ++ x)) ≤ length x
      by_word (Before e word rest) =
          rw rest (omega (arith, shorter is_word_byte (behind is_blank x), shorter is_blank x))
      by_word (Within e word rest) = rw rest (shorter is_word_byte x)
      by_word (Behind d ds e word rest) =
          absurd (let j : true ≡ false = sym k ∙ ap spells_eof word ∙ past_word d ds e in cc)

  -- the line is no EOF
  pub no_end : spells_eof (behind is_blank pre) ≡ false → spells_eof (word_of pre) ≡ false
  no_end k = by_rest (behind_word pre) refl
    where
      by_rest : (r : List ℕ) → behind_word pre ≡ r → spells_eof (word_of pre) ≡ false
      by_rest [] f = rw (front-whole is_word_byte (behind is_blank pre) f) k
      by_rest (d ∷ ds) f = past_word d ds f

  pub over : (n : ℕ) (x : List ℕ) (whole : Bool) → length pre ≡ suc line_limit →
      ltb line_limit (counted (record { number = n; bytes = pre ++ x; whole = whole })) ≡ true
  over n x whole len = by_end (is_end (record { number = n; bytes = pre ++ x; whole = whole })) refl
    where
      by_end : (t : Bool) → is_end (record { number = n; bytes = pre ++ x; whole = whole }) ≡ t →
          ltb line_limit (length (pre ++ x) - cond t (length (behind_word (pre ++ x))) 0) ≡ true
      by_end true e = lt-ltb _ _ (omega (arith, len, length-append pre x, late x (and_parts _ _ e).0))
      by_end false e = lt-ltb _ _ (omega (arith, len, length-append pre x))

-- ---- what a line does

pub judge_none : (m : ℕ) (before : Settings) → judge_params m before [] ≡ Some (answer_at_end m before)
unfolding judge_params
judge_none m before = refl

judge_piece : (m : ℕ) (before : Settings) (over last more : Bool) (line : ℕ) (entry : Entry) (ps : List Piece)
    → judge_params m before (cond over (LongLine line) (cond last (End line) (cond more Open (Holds line entry))) ∷ ps)
    ≡ cond over (Some (Err (record { line = line; kind = kinds.TooLong })))
    (cond last (Some (answer_at_end line before))
    (cond more None
    (after line (means before entry) (judge_params line (before ++ settings_of (means before entry)) ps))))
unfolding judge_params
judge_piece m before false false true line entry ps = refl
judge_piece m before _ _ _ line entry ps = refl

-- what is judged of a line
pub judge_line : (m : ℕ) (before : Settings) (l : Line) (ls : List Line) → judge_params m before (param_pieces (l ∷ ls))
    ≡ cond (ltb line_limit (counted l)) (Some (Err (record { line = l.number; kind = kinds.TooLong })))
    (cond (is_end l) (Some (answer_at_end l.number before))
    (cond (not l.whole) None
    (after l.number (line_means before (behind is_blank l.bytes))
    (judge_params l.number (before ++ settings_of (line_means before (behind is_blank l.bytes))) (param_pieces ls)))))
judge_line m before l ls = judge_piece m before (ltb line_limit (counted l)) (is_end l) (not l.whole) l.number
    (entry_of (behind is_blank l.bytes)) (param_pieces ls)

any_number : (m n k : ℕ) (before : Settings) (e : Bool) (bs : List ℕ) →
    judge_params m before (param_pieces (lines e k bs)) ≡ judge_params n before (param_pieces (lines e k bs))
any_number m n k before e bs = let c = lines_cons e bs k in
    rw c.is (judge_line m before c.first c.rest ∙ sym (judge_line n before c.first c.rest))

judge_over : (m : ℕ) (before : Settings) (l : Line) (ls : List Line) → ltb line_limit (counted l) ≡ true →
    judge_params m before (param_pieces (l ∷ ls)) ≡ Some (Err (record { line = l.number; kind = kinds.TooLong }))
judge_over m before l ls h = judge_line m before l ls ∙ cond-true _ _ _ h

judge_end : (m : ℕ) (before : Settings) (l : Line) (ls : List Line) → ltb line_limit (counted l) ≡ false →
    is_end l ≡ true → judge_params m before (param_pieces (l ∷ ls)) ≡ Some (answer_at_end l.number before)
judge_end m before l ls h e = judge_line m before l ls ∙ cond-false _ _ _ h ∙ cond-true _ _ _ e

judge_open : (m : ℕ) (before : Settings) (l : Line) (ls : List Line) → ltb line_limit (counted l) ≡ false →
    is_end l ≡ false → l.whole ≡ false → judge_params m before (param_pieces (l ∷ ls)) ≡ None
judge_open m before l ls h e w = judge_line m before l ls ∙ cond-false _ _ _ h ∙ cond-false _ _ _ e
    ∙ cond-true _ _ _ (ap not w)

judge_whole : (m : ℕ) (before : Settings) (l : Line) (ls : List Line) → ltb line_limit (counted l) ≡ false
    → is_end l ≡ false → l.whole ≡ true
    → judge_params m before (param_pieces (l ∷ ls)) ≡ after l.number (line_means before (behind is_blank l.bytes))
    (judge_params l.number (before ++ settings_of (line_means before (behind is_blank l.bytes))) (param_pieces ls))
judge_whole m before l ls h e w = judge_line m before l ls ∙ cond-false _ _ _ h ∙ cond-false _ _ _ e
    ∙ cond-false _ _ _ (ap not w)

-- a line that is no EOF counts whole
counts_all : (l : Line) → is_end l ≡ false → length l.bytes ≤ line_limit → ltb line_limit (counted l) ≡ false
counts_all l e le = rw e (le-ltb _ _ (omega (arith, le)))

record EndsWith (pre y : List ℕ) (n : ℕ) (whole : Bool) : Type 0 where
  pub ends : is_end (record { number = n; bytes = pre ++ y; whole = whole }) ≡ true
  pub counts : ltb line_limit (counted (record { number = n; bytes = pre ++ y; whole = whole })) ≡ false

eof_at : (pre y : List ℕ) (n : ℕ) (whole : Bool) → spells_eof (behind is_blank pre) ≡ true → length pre ≤ line_limit →
    begins_no is_word_byte y ≡ true → (whole || not (is_empty y)) ≡ true → EndsWith pre y n whole
eof_at pre y n whole k le solid w =
    let i = eof_word (behind is_blank pre) k in
    let on = behind-on is_blank pre y i.some in
    let word : word_of (pre ++ y) ≡ behind is_blank pre = ap (front is_word_byte) on
    ∙ front-all is_word_byte (behind is_blank pre) y i.word
    ∙ ap (λ (z : List ℕ). behind is_blank pre ++ z) (front_none y solid) ∙ append-nil _ in
    let rest : behind_word (pre ++ y) ≡ y = ap (behind is_word_byte) on
    ∙ behind-all is_word_byte (behind is_blank pre) y i.word ∙ behind_none is_word_byte y solid in
    let ends : is_end (record { number = n; bytes = pre ++ y; whole = whole }) ≡ true =
    and_from _ _ (ap spells_eof word ∙ k) (ap (λ (z : List ℕ). whole || not (is_empty z)) rest ∙ w) in
    let size : length (behind_word (pre ++ y)) ≡ length y = ap length rest in
    record {
      ends = ends;
      counts = ap (λ t. ltb line_limit (length (pre ++ y) - cond t (length (behind_word (pre ++ y))) 0)) ends
          ∙ le-ltb _ _ (omega (arith, le, length-append pre y, size));
    }

pub from_byte : (n : ℕ) (before : Settings) (pre : List ℕ) (e : Bool) (b : ℕ) (more : List ℕ) → eqb b LF ≡ false →
    params_from_line n before pre e (b ∷ more) ≡ params_from_line n before (pre ++ b ∷ []) e more
unfolding params_from_line
from_byte n before pre e b more h =
    ap (λ (ls : List Line). (judge_params n before (param_pieces (prepend pre ls)))) (lines-byte e n b more h)
    ∙ ap (λ (ls : List Line). (judge_params n before (param_pieces ls))) (prepend-onto pre b (lines e n more))

pub from_over : (n : ℕ) (before : Settings) (pre : List ℕ) (e : Bool) (more : List ℕ) → ends_in pre ≡ false →
    length pre ≡ suc line_limit →
    params_from_line n before pre e more ≡ Some (Err (record { line = n; kind = kinds.TooLong }))
unfolding params_from_line
from_over n before pre e more none len =
    let f = first_line e n more in
    ap (λ (ls : List Line). (judge_params n before (param_pieces (prepend pre ls)))) f.is
    ∙ (judge_over n before _ f.rest (over pre none n f.bytes f.whole len))

pub from_eof : (n : ℕ) (before : Settings) (pre : List ℕ) (e : Bool) (b : ℕ) (more : List ℕ) →
    spells_eof (behind is_blank pre) ≡ true → length pre ≤ line_limit → is_word_byte b ≡ false →
    params_from_line n before pre e (b ∷ more) ≡ Some (answer_at_end n before)
unfolding params_from_line
from_eof n before pre e b more k le solid = by_test (eqb b LF) refl
  where
    by_test : (t : Bool) → eqb b LF ≡ t →
        (judge_params n before (param_pieces (prepend pre (lines e n (b ∷ more))))) ≡ Some (answer_at_end n before)
    by_test true t =
        let is : b ≡ LF = eqb-true _ _ t in
        let i = eof_at pre [] n true k le refl refl in
        rw (is, lines-LF e n more)
        ((judge_end n before (record { number = n; bytes = pre ++ []; whole = true }) (lines e (suc n) more)
        i.counts i.ends))
    by_test false t =
        let f = first_line e n more in
        let i = eof_at pre (b ∷ f.bytes) n f.whole k le (rw solid refl) (or_right f.whole true refl) in
        rw (lines-byte e n b more t, f.is)
        ((judge_end n before (record { number = n; bytes = pre ++ b ∷ f.bytes; whole = f.whole }) f.rest
        i.counts i.ends))

pub from_end_eof : (n : ℕ) (before : Settings) (pre : List ℕ) → spells_eof (behind is_blank pre) ≡ true →
    length pre ≤ line_limit → params_from_line n before pre true [] ≡ Some (answer_at_end n before)
unfolding params_from_line lines
from_end_eof n before pre k le = let i = eof_at pre [] n true k le refl refl in
    (judge_end n before (record { number = n; bytes = pre ++ []; whole = true }) [] i.counts i.ends)

module _ (n : ℕ) (before : Settings) (pre : List ℕ) (none : ends_in pre ≡ false) (le : length pre ≤ line_limit) where
  pub from_open : params_from_line n before pre false [] ≡ None
  unfolding params_from_line lines
  from_open =
      rw (append-nil pre)
      ((judge_open n before (record { number = n; bytes = pre; whole = false }) []
      (counts_all (record { number = n; bytes = pre; whole = false }) none le) none refl))

  module _ (other : spells_eof (behind is_blank pre) ≡ false) where
    line_ends : is_end (record { number = n; bytes = pre; whole = true }) ≡ false
    line_ends = and_left _ true (no_end pre none other)

    at_line : (ls : List Line) →
        judge_params n before (param_pieces (record { number = n; bytes = pre; whole = true } ∷ ls)) ≡ after
        n (line_means before (behind is_blank pre))
        (judge_params n (before ++ settings_of (line_means before (behind is_blank pre))) (param_pieces ls))
    at_line ls =
        judge_whole n before (record { number = n; bytes = pre; whole = true }) ls
        (counts_all (record { number = n; bytes = pre; whole = true }) line_ends le) line_ends refl

    sound : (m : Meaning) (r : Option Answer) → IsFaultless m → after n m r ≡ r
    sound (Faulty kind) r h = absurd h
    sound _ r h = refl

    pub from_LF : (e : Bool) (more : List ℕ) → IsFaultless (line_means before (behind is_blank pre))
        → params_from_line n before pre e (LF ∷ more) ≡ params_from_line (suc n)
        (before ++ settings_of (line_means before (behind is_blank pre))) [] e more
    unfolding params_from_line
    from_LF e more h =
        let b = before ++ settings_of (line_means before (behind is_blank pre)) in
        rw (lines-LF e n more, append-nil pre, prepend-nil (lines e (suc n) more))
        ((at_line (lines e (suc n) more) ∙ sound _ _ h ∙ any_number n (suc n) (suc n) b e more))

    pub from_LF_fault : (e : Bool) (more : List ℕ) (kind : ParamKind)
        → line_means before (behind is_blank pre) ≡ Faulty kind
        → params_from_line n before pre e (LF ∷ more) ≡ Some (Err (record { line = n; kind = kind }))
    unfolding params_from_line
    from_LF_fault e more kind h =
        rw (lines-LF e n more, append-nil pre) ((at_line (lines e (suc n) more))
        ∙ ap
        (λ (m : Meaning).
        (after n m (judge_params n (before ++ settings_of m) (param_pieces (lines e (suc n) more))))) h)

    pub from_end : IsFaultless (line_means before (behind is_blank pre)) →
        params_from_line n before pre true [] ≡ Some
        (answer_at_end n (before ++ settings_of (line_means before (behind is_blank pre))))
    unfolding params_from_line lines
    from_end h = rw (append-nil pre) ((at_line [] ∙ sound _ _ h ∙ judge_none n _))

    pub from_end_fault : (kind : ParamKind) → line_means before (behind is_blank pre) ≡ Faulty kind →
        params_from_line n before pre true [] ≡ Some (Err (record { line = n; kind = kind }))
    unfolding params_from_line lines
    from_end_fault kind h =
        rw (append-nil pre) ((at_line [])
        ∙ ap (λ (m : Meaning). (after n m (judge_params n (before ++ settings_of m) []))) h)
