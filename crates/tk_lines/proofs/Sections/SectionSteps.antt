-- What a byte does in a section.
use Rattle.std.proofs.Common.{◌≡◌, ℕ, suc, ◌+◌, ◌≤◌, true, false, eqb, List, [], ◌∷◌, ◌++◌, length, Some}
use Rattle.std.proofs.Common.{None, Ok, Err, refl, ap, ◌∙◌, arith}
use Rattle.std.proofs.lemmas.List.{length-append}
use Rattle.std.proofs.lemmas.Bool.{eqb-true}
use Rattle.tk_words.specs.declared.keyword.Keyword.{Keyword}
use Rattle.tk_words.specs.declared.fault.TextKind.{TextKind}
use Rattle.tk_words.specs.declared.fault.TextKind.TheVariants as kinds
use Rattle.tk_words.specs.Lex.{LF, Token, is_blank, IsUnbroken}
use Rattle.tk_lines.specs.Pieces.{Piece, Clean, Early, Format, last_line, ended}
use Rattle.tk_lines.specs.Reader.FromMiddle.{from_line, in_section}
use Rattle.tk_lines.specs.Reader.Handlers.{whole, Goes, Closed, EndsAtEof, StopsAt, a_section}
use Rattle.tk_lines.specs.Reader.Places.{Next, Within, anything, this, a_gap, Says, DecidesIf, AtLine, AtBegin, AtToken}
use Rattle.tk_lines.specs.Reader.Places.{AtClose}
use Rattle.tk_lines.proofs.Sections.MiddleOfSection.{in_section-byte, in_section-next}
use Rattle.tk_lines.proofs.Sections.SectionEnds.{in_section-closed, last_line-append}
use Rattle.tk_lines.proofs.Headers.ByteRuns.{behind-all}
use Rattle.tk_lines.proofs.Sections.SectionBytes.{in_section-drop, in_section-token, in_section-stops, in_section-eof}
use Rattle.tk_lines.proofs.Sections.SectionBytes.{in_section-another, in_section-long, from_line-inside}
use Rattle.tk_lines.proofs.Sections.SectionBytes.{from_line-colon, plain}
use Rattle.tk_lines.proofs.LineSteps.{says_byte, tail_byte}
use Rattle.tk_lines.proofs.SameStates.{begin_reported, token_reported, close_reported}

pub run_more : (held : List ℕ) (b : ℕ) → IsUnbroken held → is_blank b ≡ false → IsUnbroken (held ++ b ∷ [])
run_more [] b h solid = absurd h
run_more (c ∷ []) b h solid = (h, solid)
run_more (c ∷ d ∷ held) b h solid = (h.0, run_more (d ∷ held) b h.1 solid)

-- neither a blank nor a colon comes after a section's word: its tokens begin
module _ {V S : Type 0} {f : Format V} {W : S → List Piece → Keyword → ℕ → List Token → Type 0} {next : Next} {form : S}
    {line : ℕ} {held bs : List ℕ} where
  pub begin_plain : Within next plain → AtBegin f W next form line held bs → AtToken f W next form line [] bs
  begin_plain within a =
      begin_reported a (λ e more n. a.at.same e more n
      ∙ from_line-inside f a.before a.at.upto held a.tail e line more a.at.lt a.at.is_word (a.at.settled e more n)
      a.word a.at.word_is a.section a.blank (within e more n))

module _ {V S : Type 0} (f : Format V) (W : S → List Piece → Keyword → ℕ → List Token → Type 0) (form : S) (line b : ℕ)
    (bs : List ℕ) where
  pub gap_LF : AtToken f W (this LF) form line [] bs → AtToken f W anything form (line + 1) [] (bs ++ LF ∷ [])
  gap_LF a =
      token_reported a
      (says_byte f LF bs _ _ a.same (λ e more. in_section-next f a.before a.word a.first a.toks e line more
      ∙ ap (λ (n : ℕ). in_section f a.before a.word a.first a.toks [] e n more) (omega arith)))

  pub token_byte : (pre : List ℕ) → eqb b LF ≡ false → AtToken f W (this b) form line pre bs →
      AtToken f W anything form line (pre ++ b ∷ []) (bs ++ b ∷ [])
  token_byte pre other a =
      token_reported a
      (says_byte f b bs _ _ a.same
      (λ e more. in_section-byte f a.before a.word a.first a.toks pre e line b more other))

  pub gap_blank : eqb b LF ≡ false → is_blank b ≡ true → AtToken f W (this b) form line [] bs →
      AtToken f W anything form line [] (bs ++ b ∷ [])
  gap_blank other blank a =
      token_reported a
      (says_byte f b bs _ _ a.same (λ e more. in_section-byte f a.before a.word a.first a.toks [] e line b more other
      ∙ in_section-drop f a.before a.word a.first a.toks e line more b blank))

  pub begin_blank : (held : List ℕ) → eqb b LF ≡ false → is_blank b ≡ true → AtBegin f W (this b) form line held bs →
      AtBegin f W anything form line held (bs ++ b ∷ [])
  begin_blank held other blank a = record {
    word = a.word;
    before = a.before;
    tail = a.tail ++ b ∷ [];
    at = tail_byte f line b held bs a.word a.before a.tail other a.at;
    section = a.section;
    wants = a.wants;
    goes = a.goes;
    blank = behind-all is_blank a.tail (b ∷ []) a.blank ∙ rw blank refl;
  }

  pub begin_colon : (held : List ℕ) → AtBegin f W (this 58) form line held bs →
      AtToken f W anything form line [] (bs ++ 58 ∷ [])
  begin_colon held a =
      begin_reported a
      (says_byte f 58 bs _ _ a.at.same
      (λ e more. from_line-colon f a.before a.at.upto held a.tail e line more a.at.lt a.at.is_word
      (a.at.settled e (58 ∷ more) refl) a.word a.at.word_is a.section a.blank))

  pub begin_other : (held : List ℕ) → is_blank b ≡ false → eqb b 58 ≡ false → AtBegin f W (this b) form line held bs →
      AtToken f W (this b) form line [] bs
  begin_other held solid other = begin_plain plain_this
    where
      plain_this : Within (this b) plain
      plain_this e [] n = absurd cc
      plain_this e (c ∷ more) n = let is : c ≡ b = eqb-true c b n in rw (is, solid, other) refl

-- a token of more than 64 bytes
module _ {V S : Type 0} (f : Format V) (W : S → List Piece → Keyword → ℕ → List Token → Type 0) (form : S) (line b : ℕ)
    (held bs : List ℕ) where
  pub token_long : IsUnbroken held → length held ≡ 64 → is_blank b ≡ false → eqb b LF ≡ false →
      AtToken f W (this b) form line held bs →
      DecidesIf f anything (bs ++ b ∷ []) (Err (record { line = line; kind = kinds.TooLong }))
  token_long run full solid other a =
      says_byte f b bs _ _ a.same (λ e more. in_section-byte f a.before a.word a.first a.toks held e line b more other ∙
      in_section-long f a.before a.word a.first a.toks (held ++ b ∷ []) e line more (run_more held b run solid)
      (omega (arith, full, length-append held (b ∷ []))) a.goes.long)

-- a token's end
module _ {V S : Type 0} (f : Format V) (W : S → List Piece → Keyword → ℕ → List Token → Type 0) (next : Next) (form : S)
    (line : ℕ) (held bs : List ℕ) (within : Within next a_gap) (run : IsUnbroken held)
    (a : AtToken f W next form line held bs) where
  pub same_now : ((more : List Token)
      → length (a.toks ++ whole held line
      ∷ []) ≤ (f.extent a.before a.word ((a.toks ++ whole held line ∷ []) ++ more)).count)
      → Says f next bs (λ e more. in_section f a.before a.word a.first (a.toks ++ whole held line ∷ []) [] e line more)
  same_now covers e more n = a.same e more n
      ∙ in_section-token f a.before a.word a.first a.toks held e line more run (within e more n) covers

  pub token_more : (form' : S) → W form' a.before a.word a.first (a.toks ++ whole held line ∷ []) →
      Goes f a.before a.word a.first (a.toks ++ whole held line ∷ []) → AtToken f W next form' line [] bs
  token_more form' wants goes = record {
    before = a.before;
    word = a.word;
    first = a.first;
    toks = a.toks ++ whole held line ∷ [];
    wants = wants;
    goes = goes;
    same = same_now goes.covers;
  }

  pub token_stops : (k : TextKind) → StopsAt f a.before a.word a.first a.toks (whole held line) k →
      DecidesIf f next bs (Err (record { line = line; kind = k }))
  token_stops k stops e more n = a.same e more n
      ∙ in_section-stops f a.before a.word a.first a.toks held e line more run (within e more n) k stops

  token_eof : EndsAtEof f a.before a.word a.first a.toks (whole held line) →
      Says f next bs
      (λ e more. ended f (a.before ++ a_section a.word a.first a.toks (Early line true)) line true
      (f.at_end (a.before ++ a_section a.word a.first a.toks (Early line true))))
  token_eof eof e more n = a.same e more n
      ∙ in_section-eof f a.before a.word a.first a.toks held e line more run (within e more n) eof

  pub token_eof_ok : EndsAtEof f a.before a.word a.first a.toks (whole held line) →
      f.at_end (a.before ++ a_section a.word a.first a.toks (Early line true)) ≡ None → (v : V) →
      v ≡ f.value (a.before ++ a_section a.word a.first a.toks (Early line true)) → DecidesIf f next bs (Ok v)
  token_eof_ok eof none v v_is e more n = token_eof eof e more n ∙ rw (none, v_is) refl

  pub token_eof_err : EndsAtEof f a.before a.word a.first a.toks (whole held line) → (k : TextKind) →
      f.at_end (a.before ++ a_section a.word a.first a.toks (Early line true)) ≡ Some k →
      DecidesIf f next bs (Err (record { line = line; kind = k }))
  token_eof_err eof k some e more n = token_eof eof e more n ∙ rw some refl

  pub token_last : (H : S → List Piece → Type 0) (form' : S) →
      H form' (a.before ++ a_section a.word a.first (a.toks ++ whole held line ∷ []) Clean) →
      Closed f a.before a.word a.first (a.toks ++ whole held line ∷ []) → AtClose f H next form' line bs
  token_last H form' holds closed = record {
    before = a.before;
    word = a.word;
    first = a.first;
    toks = a.toks ++ whole held line ∷ [];
    holds = holds;
    closed = closed;
    last = last_line-append a.first a.toks (whole held line ∷ []);
    same = same_now (λ more. rw (closed.extent more) (omega arith));
  }

-- after the last token
module _ {V S : Type 0} (f : Format V) (H : S → List Piece → Type 0) (form : S) (line b : ℕ) (bs : List ℕ) where
  pub close_LF : AtClose f H (this LF) form line bs → AtLine f H anything form (line + 1) [] (bs ++ LF ∷ [])
  close_LF a = record {
    before = a.before ++ a_section a.word a.first a.toks Clean;
    upto = last_line a.first a.toks;
    holds = a.holds;
    lt = omega (arith, a.last);
    same = says_byte f LF bs _ _ a.same (λ e more. in_section-next f a.before a.word a.first a.toks e line more
        ∙ in_section-closed f a.before a.word a.first a.toks [] e (suc line) more (omega (arith, a.last))
        (a.closed.extent _) a.closed.clean
        ∙ ap (λ (n : ℕ). from_line f (a.before ++ a_section a.word a.first a.toks Clean) (last_line a.first a.toks)
        [] e n more) (omega arith));
  }

  pub close_blank : eqb b LF ≡ false → is_blank b ≡ true → AtClose f H (this b) form line bs →
      AtClose f H anything form line (bs ++ b ∷ [])
  close_blank other blank a =
      close_reported a
      (says_byte f b bs _ _ a.same (λ e more. in_section-byte f a.before a.word a.first a.toks [] e line b more other
      ∙ in_section-drop f a.before a.word a.first a.toks e line more b blank))

  pub close_trailing : eqb b LF ≡ false → is_blank b ≡ false → AtClose f H (this b) form line bs →
      DecidesIf f anything (bs ++ b ∷ []) (Err (record { line = line; kind = kinds.TrailingData }))
  close_trailing other solid a =
      says_byte f b bs _ _ a.same (λ e more. in_section-byte f a.before a.word a.first a.toks [] e line b more other ∙
      in_section-another f a.before a.word a.first a.toks (b ∷ []) e line more solid a.last a.closed.trailing
      (a.closed.extent _))
