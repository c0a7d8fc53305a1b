-- What a text says from the middle of a section on.
use Rattle.std.proofs.Common.{◌≡◌, ℕ, suc, ◌≤◌, Bool, true, false, cond, eqb, leb, not, ◌||◌, List, [], ◌∷◌, ◌++◌, refl}
use Rattle.std.proofs.Common.{ap, ◌∙◌}
use Rattle.std.proofs.lemmas.List.{append-nil}
use Rattle.std.proofs.lemmas.Bool.{le-leb}
use Rattle.tk_words.specs.declared.keyword.Keyword.{Keyword}
use Rattle.tk_words.specs.Lex.{LF, Line, Token, onto_line, onto_token, goes_on, lines, tokens, tokens_of, is_blank}
use Rattle.tk_words.specs.Lex.{is_empty, behind, IsUnbroken}
use Rattle.tk_lines.specs.Pieces.{Piece, Extents, covered, cut, Format}
use Rattle.tk_lines.specs.Reader.FromMiddle.{in_section, goes, new_pieces, end_of}
use Rattle.tk_lines.proofs.MiddleOfLine.{prepend-onto, prepend-nil, lines-byte, lines-LF, lines_cons, end_token-bytes}
use Rattle.tk_words.proofs.BoolLaws.{or_true}

pub run_head : (b : ℕ) (bs : List ℕ) → IsUnbroken (b ∷ bs) → is_blank b ≡ false
run_head b [] h = h
run_head b (c ∷ bs) h = h.0

abbrev pub token : List ℕ → ℕ → Token
token bs n = record { bytes = bs; line = n; whole = true }

-- a byte with which a token goes on, ends, or that stands between tokens
pub tokens_of-more : (w : Bool) (n b : ℕ) (bs : List ℕ) → is_blank b ≡ false → goes_on bs ≡ true →
    tokens_of w n (b ∷ bs) ≡ onto_token b (tokens_of w n bs)
unfolding tokens_of
tokens_of-more w n b bs h g = rw (h, g) refl

pub tokens_of-end : (w : Bool) (n b : ℕ) (bs : List ℕ) → is_blank b ≡ false → goes_on bs ≡ false →
    tokens_of w n (b ∷ bs) ≡ record { bytes = b ∷ []; line = n; whole = w || not (is_empty bs) } ∷ tokens_of w n bs
unfolding tokens_of
tokens_of-end w n b bs h g = rw (h, g) refl

pub tokens_of-gap : (w : Bool) (n b : ℕ) (bs : List ℕ) → is_blank b ≡ true → tokens_of w n (b ∷ bs) ≡ tokens_of w n bs
unfolding tokens_of
tokens_of-gap w n b bs h = rw h refl

pub tokens_of-none : (w : Bool) (n : ℕ) → tokens_of w n [] ≡ []
unfolding tokens_of
tokens_of-none w n = refl

goes_on-is : (b : ℕ) (bs : List ℕ) (t : Bool) → is_blank b ≡ t → goes_on (b ∷ bs) ≡ not t
goes_on-is b bs t h = ap not h

pub tokens_of-run : (w : Bool) (n : ℕ) (held : List ℕ) (c : ℕ) (more : List ℕ) → IsUnbroken held → is_blank c ≡ true →
    tokens_of w n (held ++ c ∷ more) ≡ token held n ∷ tokens_of w n more
tokens_of-run w n [] c more h blank = absurd h
tokens_of-run w n (b ∷ []) c more h blank = tokens_of-end w n b (c ∷ more) h (goes_on-is c more true blank)
    ∙ rw (or_true w, tokens_of-gap w n c more blank) refl
tokens_of-run w n (b ∷ d ∷ held) c more h blank =
    tokens_of-more w n b (d ∷ held ++ c ∷ more) h.0 (goes_on-is d (held ++ c ∷ more) false (run_head d held h.1))
    ∙ ap (onto_token b) (tokens_of-run w n (d ∷ held) c more h.1 blank)

-- at the end of a whole line
pub tokens_of-last : (n : ℕ) (held : List ℕ) → IsUnbroken held → tokens_of true n held ≡ token held n ∷ []
tokens_of-last n [] h = absurd h
tokens_of-last n (b ∷ []) h = tokens_of-end true n b [] h refl
    ∙ ap (λ (ts : List Token). token (b ∷ []) n ∷ ts) (tokens_of-none true n)
tokens_of-last n (b ∷ d ∷ held) h =
    tokens_of-more true n b (d ∷ held) h.0 (goes_on-is d held false (run_head d held h.1))
    ∙ ap (onto_token b) (tokens_of-last n (d ∷ held) h.1)

pub end_of-onto : (b : ℕ) (ls : List Line) → end_of (onto_line b ls) ≡ end_of ls
end_of-onto b [] = refl
end_of-onto b (l ∷ ls) = end_token-bytes l (b ∷ l.bytes) ls

pub end_of-LF : (e : Bool) (n : ℕ) (bs : List ℕ) → end_of (lines e n (LF ∷ bs)) ≡ end_of (lines e (suc n) bs)
end_of-LF e n bs = let c = lines_cons e bs (suc n) in rw (lines-LF, c.is) refl

-- a line that belongs to the section before is passed over
pub cut-covered : (extent : Extents) (before : List Piece) (upto : ℕ) (l : Line) (ls : List Line) → l.number ≤ upto →
    cut extent before upto (l ∷ ls) ≡ cut extent before upto ls
unfolding cut
cut-covered extent before upto l ls le = rw (le-leb _ _ le, append-nil before) refl

-- a blank line is passed over
pub cut-blank : (extent : Extents) (before : List Piece) (upto : ℕ) (l : Line) (ls : List Line) →
    behind is_blank l.bytes ≡ [] → cut extent before upto (l ∷ ls) ≡ cut extent before upto ls
unfolding cut
cut-blank extent before upto l ls blank = rw blank (by_test (leb l.number upto))
  where
    by_test : (t : Bool) → (cond t [] [] ++ cut extent (before ++ cond t [] []) (covered upto (cond t [] [])) ls) ≡ cut
        extent before upto ls
    by_test true = rw (append-nil before) refl
    by_test false = rw (append-nil before) refl

module _ {V : Type 0} (f : Format V) (before : List Piece) (word : Keyword) (n0 : ℕ) where
  pub in_section-byte : (toks : List Token) (pre : List ℕ) (e : Bool) (n b : ℕ) (bs : List ℕ) → eqb b LF ≡ false →
      in_section f before word n0 toks pre e n (b ∷ bs) ≡ in_section f before word n0 toks (pre ++ b ∷ []) e n bs
  unfolding in_section
  in_section-byte toks pre e n b bs h =
      rw (lines-byte e n b bs h, prepend-onto pre b (lines e n bs), end_of-onto b (lines e n bs)) refl

  -- what the tokens so far and those to come make of the lines
  abbrev pub made : List Token → Bool → ℕ → List ℕ → List Piece
  made toks e n bs = new_pieces f before word n0 (toks ++ tokens (lines e n bs)) (end_of (lines e n bs))

  -- the end of a line with no more tokens, and a blank between tokens
  pub in_section-next : (toks : List Token) (e : Bool) (n : ℕ) (bs : List ℕ) →
      in_section f before word n0 toks [] e n (LF ∷ bs) ≡ in_section f before word n0 toks [] e (suc n) bs
  unfolding in_section goes
  in_section-next toks e n bs =
      let new = made toks e (suc n) bs in
      let l : Line = record { number = n; bytes = []; whole = true } in
      let passed : cut f.extent (before ++ new) (covered 0 new) (l ∷ lines e (suc n) bs) ≡ cut f.extent (before ++ new)
      (covered 0 new) (lines e (suc n) bs) =
      cut-blank f.extent (before ++ new) (covered 0 new) l (lines e (suc n) bs) refl in
      rw (end_of-LF e n bs, lines-LF e n bs, tokens_of-none true n, prepend-nil (lines e (suc n) bs), passed) refl
