-- What a byte does after the -1 that ends a section.
use Rattle.std.proofs.Common.{◌≡◌, ℕ, ◌+◌, ◌<◌, Bool, true, false, eqb, List, [], ◌∷◌, ◌++◌}
use Rattle.std.proofs.Common.{Err, refl, ap, subst, ◌∙◌, arith}
use Rattle.std.proofs.lemmas.List.{append-nil}
use Rattle.tk_words.specs.declared.keyword.Keyword.{Keyword}
use Rattle.tk_words.specs.declared.fault.TextKind.TheVariants as kinds
use Rattle.tk_words.specs.Lex.{LF, Token, tokens, lines, is_blank, is_letter, IsUnbroken}
use Rattle.tk_lines.specs.Pieces.{Piece, Clean, Format, last_line}
use Rattle.tk_lines.specs.Reader.FromMiddle.{prepend, in_section}
use Rattle.tk_words.specs.MinusOne.{one_more}
use Rattle.tk_lines.specs.Reader.Handlers.{whole, EndsWithMinusOne, a_section}
use Rattle.tk_lines.specs.Reader.Places.{Next, Within, anything, this, a_gap, DecidesIf, AtLine, AtToken, AtAfter}
use Rattle.tk_lines.specs.Reader.Places.{IsLastLine}
use Rattle.tk_lines.proofs.Sections.MiddleOfSection.{in_section-byte, in_section-next}
use Rattle.tk_lines.proofs.Sections.SectionEnds.{in_section-closed, first_line, last_line-append, alone_clean}
use Rattle.tk_lines.proofs.Sections.SectionEnds.{alone_trailing, alone_extent}
use Rattle.tk_lines.proofs.Sections.SectionBytes.{in_section-drop, in_section-another, first_token}
use Rattle.tk_lines.proofs.LineSteps.{says_byte}
use Rattle.tk_lines.proofs.Sections.ListTokens.{no_minus_one}
use Rattle.tk_lines.proofs.SameStates.{after_reported}
use Rattle.tk_lines.proofs.KnownWordLines.{blank_letter, differs}
use Rattle.tk_lines.proofs.Sections.SectionSteps.{same_now}
use Rattle.tk_words.proofs.NumberLaws.MinusOne.{other_integer}

letter_more : (b n : ℕ) (y : List ℕ) (w : Bool) (more : List Token) → is_letter b ≡ true →
    one_more (record { bytes = b ∷ y; line = n; whole = w } ∷ more) ≡ 0
letter_more b n y w more h = let other = differs is_letter b 45 h refl in
    rw (other_integer b y other, other_integer b (y ++ 49 ∷ []) other) (no_minus_one w false false refl refl)

module _ {V S : Type 0} (f : Format V) (H : S → List Piece → Type 0) (form : S) (line b : ℕ) (bs : List ℕ) where
  earlier : (o : Bool) (last : ℕ) → IsLastLine o last line → last < line + 1
  earlier true last h = omega (arith, h)
  earlier false last h = omega (arith, h)

  pub after_LF : (o : Bool) → AtAfter f H (this LF) form line o [] bs →
      AtAfter f H anything form (line + 1) false [] (bs ++ LF ∷ [])
  after_LF o a =
      after_reported a (earlier o (last_line a.first a.toks) a.last)
      (says_byte f LF bs _ _ a.same (λ e more. in_section-next f a.before a.word a.first a.toks e line more
      ∙ ap (λ (n : ℕ). in_section f a.before a.word a.first a.toks [] e n more) (omega arith)))

  pub after_blank : (o : Bool) → eqb b LF ≡ false → is_blank b ≡ true → AtAfter f H (this b) form line o [] bs →
      AtAfter f H anything form line o [] (bs ++ b ∷ [])
  after_blank o other blank a =
      after_reported a a.last
      (says_byte f b bs _ _ a.same (λ e more. in_section-byte f a.before a.word a.first a.toks [] e line b more other
      ∙ in_section-drop f a.before a.word a.first a.toks e line more b blank))

  -- a byte of what may be one -1 more
  pub after_byte : (o : Bool) (pre : List ℕ) → eqb b LF ≡ false → AtAfter f H (this b) form line o pre bs →
      AtAfter f H anything form line o (pre ++ b ∷ []) (bs ++ b ∷ [])
  after_byte o pre other a =
      after_reported a a.last
      (says_byte f b bs _ _ a.same
      (λ e more. in_section-byte f a.before a.word a.first a.toks pre e line b more other))

  letter_none : is_letter b ≡ true → (e : Bool) (more : List ℕ) →
      one_more (tokens (prepend (b ∷ []) (lines e line more))) ≡ 0
  letter_none letter e more =
      let k = first_line e line more in
      let u = first_token k.whole line b k.bytes (blank_letter b letter) in
      rw (k.is, u.is) (letter_more b line u.bytes u.whole (u.rest ++ tokens k.rest) letter)

  pub after_trailing : eqb b LF ≡ false → is_letter b ≡ true → AtAfter f H (this b) form line true [] bs →
      DecidesIf f anything (bs ++ b ∷ []) (Err (record { line = line; kind = kinds.TrailingData }))
  after_trailing other letter a =
      says_byte f b bs _ _ a.same (λ e more. in_section-byte f a.before a.word a.first a.toks [] e line b more other ∙
      in_section-another f a.before a.word a.first a.toks (b ∷ []) e line more (blank_letter b letter) a.last
      (alone_trailing a.ends) (alone_extent a.ends _ (letter_none letter e more)))

  -- a letter on a later line
  pub after_word : eqb b LF ≡ false → is_letter b ≡ true → AtAfter f H (this b) form line false [] bs →
      AtLine f H anything form line (b ∷ []) (bs ++ b ∷ [])
  after_word other letter a = record {
    before = a.before ++ a_section a.word a.first a.toks Clean;
    upto = last_line a.first a.toks;
    lt = a.last;
    holds = subst (λ (ts : List Token). H form (a.before ++ a_section a.word a.first ts Clean)) (append-nil a.toks)
        (a.holds []);
    same =
        says_byte f b bs _ _ a.same (λ e more. in_section-byte f a.before a.word a.first a.toks [] e line b more other ∙
        in_section-closed f a.before a.word a.first a.toks (b ∷ []) e line more a.last
        (alone_extent a.ends _ (letter_none letter e more)) (alone_clean a.ends));
  }

-- a token that ends a list
module _ {V S : Type 0} (f : Format V) (W : S → List Piece → Keyword → ℕ → List Token → Type 0) (next : Next) (form : S)
    (line : ℕ) (held bs : List ℕ) (within : Within next a_gap) (run : IsUnbroken held)
    (a : AtToken f W next form line held bs) where
  pub token_ending : (H : S → List Piece → Type 0) (form' : S) →
      ((ones : List Token) →
      H form' (a.before ++ a_section a.word a.first ((a.toks ++ whole held line ∷ []) ++ ones) Clean)) →
      EndsWithMinusOne f a.before a.word a.first (a.toks ++ whole held line ∷ []) →
      AtAfter f H next form' line true [] bs
  token_ending H form' holds ends = record {
    before = a.before;
    word = a.word;
    first = a.first;
    toks = a.toks ++ whole held line ∷ [];
    holds = holds;
    ends = ends;
    last = last_line-append a.first a.toks (whole held line ∷ []);
    same = same_now f W next form line held bs within run a (λ more. rw (ends.extent more) (omega arith));
  }
