-- How a section ends.
use Rattle.std.proofs.Common.{◌≡◌, ℕ, zero, suc, ◌-◌, ◌<◌, ◌≤◌, Bool, true, false, cond, eqb, not, ◌||◌, List, [], ◌∷◌}
use Rattle.std.proofs.Common.{◌++◌, length, take, get_or, Some, None, refl, ap, subst, ◌∙◌, arith}
use Rattle.std.proofs.lemmas.List.{append-nil}
use Rattle.std.specs.List.{AllByRecursion}
use Rattle.std.proofs.lemmas.Bool.{ne_eqb}
use Rattle.tk_words.specs.declared.keyword.Keyword.{Keyword}
use Rattle.tk_words.specs.Lex.{LF, Line, Token, onto_line, onto_token, goes_on, lines, tokens, tokens_of, is_blank}
use Rattle.tk_words.specs.Lex.{is_empty}
use Rattle.tk_lines.specs.Pieces.{Piece, Section, End, Extents, Clean, Trailing, Fault, section_at, after_tokens}
use Rattle.tk_lines.specs.Pieces.{last_line, covered, end_token, end_piece, Format, judge}
use Rattle.tk_words.specs.declared.fault.TextKind.TheVariants as kinds
use Rattle.tk_words.specs.MinusOne.{one_more}
use Rattle.tk_lines.specs.Reader.Handlers.{EndsWithMinusOne}
use Rattle.tk_lines.proofs.EndedTexts.{all_append, all_taken}
use Rattle.tk_lines.specs.Reader.FromMiddle.{end_of, ending, new_pieces, goes, in_section, prepend, from_line}
use Rattle.tk_lines.proofs.MiddleOfLine.{lines-byte, lines_cons}
use Rattle.tk_words.proofs.BoolLaws.{and_false}

abbrev pub StandsFrom : ℕ → Token → Type 0
StandsFrom n t = n ≤ t.line

abbrev pub LineFrom : ℕ → Line → Type 0
LineFrom n l = n ≤ l.number

-- tokens from line n on
abbrev pub From : ℕ → List Token → Type 0
From n ts = AllByRecursion (StandsFrom n) ts

onto_token_from : (n b : ℕ) (ts : List Token) → From n ts → From n (onto_token b ts)
onto_token_from n b [] h = tt
onto_token_from n b (t ∷ ts) h = h

by_tests : (w : Bool) (n b : ℕ) (bs : List ℕ) (rest : List Token) (s g : Bool) → From n rest →
    From n
    (cond s rest
    (cond g (onto_token b rest) (record { bytes = b ∷ []; line = n; whole = w || not (is_empty bs) } ∷ rest)))
by_tests w n b bs rest true g h = h
by_tests w n b bs rest false true h = onto_token_from n b rest h
by_tests w n b bs rest false false h = (omega arith, h)

pub tokens_of_from : (w : Bool) (n : ℕ) (bs : List ℕ) → From n (tokens_of w n bs)
unfolding tokens_of
tokens_of_from w n [] = tt
tokens_of_from w n (b ∷ bs) = by_tests w n b bs (tokens_of w n bs) (is_blank b) (goes_on bs) (tokens_of_from w n bs)

pub from_weaker : (m n : ℕ) (ts : List Token) → m ≤ n → From n ts → From m ts
from_weaker m n [] le h = tt
from_weaker m n (t ∷ ts) le h = (omega (arith, h.0), from_weaker m n ts le h.1)

-- lines whose numbers are at least n have tokens from n on
tokens_from : (n : ℕ) (ls : List Line) → AllByRecursion (LineFrom n) ls → From n (tokens ls)
tokens_from n [] h = tt
tokens_from n (l ∷ ls) h =
    all_append (StandsFrom n) (tokens_of l.whole l.number l.bytes) (tokens ls)
    (from_weaker n l.number _ h.0 (tokens_of_from l.whole l.number l.bytes)) (tokens_from n ls h.1)

onto_line_from : (n b : ℕ) (ls : List Line) → AllByRecursion (LineFrom n) ls →
    AllByRecursion (LineFrom n) (onto_line b ls)
onto_line_from n b [] h = tt
onto_line_from n b (l ∷ ls) h = h

lines_step : (e : Bool) (m n b : ℕ) (bs : List ℕ) (t : Bool) → eqb b LF ≡ t → m ≤ n →
    ((k : ℕ) → m ≤ k → AllByRecursion (LineFrom m) (lines e k bs)) → AllByRecursion (LineFrom m) (lines e n (b ∷ bs))
unfolding lines
lines_step e m n b bs true h le ih = rw h (le, ih (suc n) (omega arith))
lines_step e m n b bs false h le ih = rw (lines-byte e n b bs h) (onto_line_from m b (lines e n bs) (ih n le))

lines_from : (e : Bool) (m : ℕ) (bs : List ℕ) (n : ℕ) → m ≤ n → AllByRecursion (LineFrom m) (lines e n bs)
unfolding lines
lines_from e m [] n le = (le, tt)
lines_from e m (b ∷ bs) n le = lines_step e m n b bs (eqb b LF) refl le (λ k h. lines_from e m bs k h)

prepend_from : (n : ℕ) (pre : List ℕ) (ls : List Line) → AllByRecursion (LineFrom n) ls →
    AllByRecursion (LineFrom n) (prepend pre ls)
prepend_from n pre [] h = tt
prepend_from n pre (l ∷ ls) h = h

-- the tokens to come stand on this line or later ones
pub to_come : (pre : List ℕ) (e : Bool) (n : ℕ) (bs : List ℕ) → From n (tokens (prepend pre (lines e n bs)))
to_come pre e n bs = tokens_from n _ (prepend_from n pre (lines e n bs) (lines_from e n bs n (omega arith)))

pub last_line-append : (m : ℕ) (xs ys : List Token) → last_line m (xs ++ ys) ≡ last_line (last_line m xs) ys
last_line-append m [] ys = refl
last_line-append m (x ∷ xs) ys = last_line-append x.line xs ys

pub last_line_from : (n m : ℕ) (ts : List Token) → n ≤ m → From n ts → n ≤ last_line m ts
last_line_from n m [] le h = le
last_line_from n m (t ∷ ts) le h = last_line_from n t.line ts h.0 h.1

pub take_past : (k : ℕ) (xs ys : List Token) → length xs ≤ k → take k (xs ++ ys) ≡ xs ++ take (k - length xs) ys
take_past k [] ys h = ap (λ (j : ℕ). take j ys) (omega arith)
take_past zero (x ∷ xs) ys h = absurd (omega arith)
take_past (suc k) (x ∷ xs) ys h =
    let e : suc k - suc (length xs) ≡ k - length xs = omega arith in
    rw e (ap (λ (zs : List Token). x ∷ zs) (take_past k xs ys (omega arith)))

pub take_whole : (xs ys : List Token) → take (length xs) (xs ++ ys) ≡ xs
take_whole [] ys = refl
take_whole (x ∷ xs) ys = ap (λ (zs : List Token). x ∷ zs) (take_whole xs ys)

-- a section that takes a token of line n covers line n
pub last_taken : (n0 n k : ℕ) (toks more : List Token) (t : Token) → t.line ≡ n → From n more →
    length (toks ++ t ∷ []) ≤ k → n ≤ last_line n0 (take k ((toks ++ t ∷ []) ++ more))
last_taken n0 n k toks more t at later le =
    let here : n ≤ last_line n0 (toks ++ t ∷ []) = rw last_line-append (omega (arith, at)) in
    rw (take_past k (toks ++ t ∷ []) more le, last_line-append)
    (last_line_from n _ (take (k - length (toks ++ t ∷ [])) more) here
    (all_taken (StandsFrom n) (k - length (toks ++ t ∷ [])) more later))

-- what comes after tokens whose last line is before n
pub clean_after : (last n : ℕ) (toks more : List Token) (end : Token) → last < n → From n more → end.bytes ≡ [] →
    after_tokens last true (get_or (toks ++ more) (length toks) end) ≡ Clean
clean_after last n [] [] end lt h none = rw (none, and_false) refl
clean_after last n [] (t ∷ more) end lt h none = rw (ne_eqb t.line last (λ e. omega (arith, e, h.0))) refl
clean_after last n (x ∷ toks) more end lt h none = clean_after last n toks more end lt h none

pub end_token-bytes_none : (e : Bool) (n : ℕ) (bs : List ℕ) → (end_of (lines e n bs)).bytes ≡ []
end_token-bytes_none e n bs = let c = lines_cons e bs n in rw c.is (no_bytes c.first c.rest)
  where
    no_bytes : (l : Line) (ls : List Line) → (end_token l ls).bytes ≡ []
    no_bytes l [] = refl
    no_bytes l (k ∷ ls) = no_bytes k ls

pub ending-is : (e : Bool) (n : ℕ) (bs : List ℕ) → ending (end_of (lines e n bs)) ≡ end_piece (lines e n bs)
ending-is e n bs = let c = lines_cons e bs n in rw c.is refl

module _ {V : Type 0} (f : Format V) (before : List Piece) (word : Keyword) (n0 : ℕ) where
  -- on a line after a section's last token nothing of the section is left: what the bytes say goes on after its piece
  pub in_section-closed : (toks : List Token) (pre : List ℕ) (e : Bool) (n : ℕ) (bs : List ℕ) → last_line n0 toks < n
      → f.extent before word
      (toks ++ tokens (prepend pre (lines e n bs))) ≡ record { count = length toks; closed = true; at_eof = false }
      → f.section before word n0 toks Clean ≡ None
      → in_section f before word n0 toks pre e n bs ≡ from_line f (before ++ Section word n0 toks Clean ∷ [])
      (last_line n0 toks) pre e n bs
  unfolding in_section goes new_pieces from_line judge
  in_section-closed toks pre e n bs lt extent none =
      let clean = clean_after (last_line n0 toks) n toks (tokens (prepend pre (lines e n bs))) (end_of (lines e n bs))
      lt (to_come pre e n bs) (end_token-bytes_none e n bs) in
      rw (extent, take_whole toks (tokens (prepend pre (lines e n bs))), clean, ending-is e n bs, none) refl

-- a section that a -1 has ended ends with these tokens, where no -1 more comes
module _ {V : Type 0} {f : Format V} {before : List Piece} {word : Keyword} {n : ℕ} {toks : List Token}
    (ends : EndsWithMinusOne f before word n toks) where
  pub alone_clean : f.section before word n toks Clean ≡ None
  alone_clean = subst (λ (ts : List Token). f.section before word n ts Clean ≡ None) (append-nil toks) (ends.clean [])

  pub alone_trailing : (line : ℕ) →
      f.section before word n toks (Trailing line) ≡ Some (Fault line kinds.TrailingData)
  alone_trailing line =
      subst (λ (ts : List Token). f.section before word n ts (Trailing line) ≡ Some (Fault line kinds.TrailingData))
      (append-nil toks) (ends.trailing [] line)

  pub alone_extent : (more : List Token) → one_more more ≡ 0 →
      f.extent before word (toks ++ more) ≡ record { count = length toks; closed = true; at_eof = false }
  alone_extent more none = ends.extent more
      ∙ ap (λ (k : ℕ). record { count = k; closed = true; at_eof = false }) (omega (arith, none))

-- the pieces of a section reach to its word's line
pub reaches : (extent : Extents) (before : List Piece) (word : Keyword) (n : ℕ) (toks : List Token) (end : Token) →
    From n toks → n ≤ covered 0 (section_at extent before word n toks end)
reaches extent before word n toks end h = by_eof (extent before word toks).at_eof
  where
    reach : n ≤ last_line n (take (extent before word toks).count toks)
    reach = last_line_from n n _ (omega arith) (all_taken (StandsFrom n) (extent before word toks).count toks h)

    by_eof : (b : Bool) →
        n ≤ covered (last_line n (take (extent before word toks).count toks))
        (cond b (End (get_or toks (extent before word toks).count end).line true ∷ []) [])
    by_eof true = reach
    by_eof false = reach

-- the first of the lines from line n on
pub record First (e : Bool) (n : ℕ) (bs : List ℕ) : Type 0 where
  pub bytes : List ℕ
  pub whole : Bool
  pub rest : List Line
  pub is : lines e n bs ≡ record { number = n; bytes = bytes; whole = whole } ∷ rest

pub first_line : (e : Bool) (n : ℕ) (bs : List ℕ) → First e n bs
first_line e n bs =
    let c = lines_cons e bs n in
    record {
      bytes = c.first.bytes;
      whole = c.first.whole;
      rest = c.rest;
      is = c.is
          ∙ ap (λ (m : ℕ). record { number = m; bytes = c.first.bytes; whole = c.first.whole } ∷ c.rest) c.numbered;
    }
