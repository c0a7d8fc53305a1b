-- Where a token after the -1 ends.
use Rattle.std.proofs.Common.{◌≡◌, ℕ, ◌<◌, Bool, true, false, eqb, leb, List, [], ◌∷◌, ◌++◌}
use Rattle.std.proofs.Common.{length, Some, None, Err, refl, ap, ◌∙◌, append_assoc, arith}
use Rattle.std.proofs.lemmas.List.{append-nil, length-append}
use Rattle.std.proofs.Math.Seq.{take-length}
use Rattle.std.proofs.lemmas.Bool.{lt-leb, le-leb}
use Rattle.tk_words.specs.declared.keyword.Keyword.{Keyword}
use Rattle.tk_words.specs.declared.fault.TextKind.TheVariants as kinds
use Rattle.tk_words.specs.Lex.{Token, integer, tokens, lines, is_blank, is_letter, LF, IsUnbroken}
use Rattle.tk_lines.specs.Pieces.{Piece, Clean, Format, last_line, cut, judge, decided_by}
use Rattle.tk_lines.specs.Reader.FromMiddle.{prepend, from_line, in_section, goes, new_pieces}
use Rattle.tk_words.specs.MinusOne.{is_minus_one, one_more, begins_minus_one}
use Rattle.tk_lines.specs.Reader.Handlers.{whole, Closed, EndsWithMinusOne, a_section}
use Rattle.tk_lines.specs.Reader.Places.{Next, Within, anything, this, a_gap, DecidesIf, AtClose, AtAfter}
use Rattle.tk_words.proofs.BoolLaws.{and_false}
use Rattle.tk_lines.proofs.Sections.MiddleOfSection.{run_head}
use Rattle.tk_lines.proofs.Sections.SectionEnds.{first_line, in_section-closed, last_line-append, alone_clean}
use Rattle.tk_lines.proofs.Sections.SectionEnds.{alone_trailing, alone_extent}
use Rattle.tk_lines.proofs.Sections.SectionBytes.{in_section-token, in_section-another, front_token, split_at}
use Rattle.tk_lines.proofs.Endings.TextEnds.{at_none, tokens_of-open, get_end}
use Rattle.tk_words.proofs.NumberLaws.MinusOne.{begins_minus, no_more, no_more_with_one, other_begins}
use Rattle.tk_lines.proofs.Endings.MinusOneSteps.{after_byte}
use Rattle.tk_lines.proofs.Sections.ListTokens.{no_minus_one}
use Rattle.tk_lines.proofs.Sections.SectionSteps.{run_more}
use Rattle.tk_words.specs.Words.{begins_word}

module _ {V S : Type 0} (f : Format V) (H : S → List Piece → Type 0) (next : Next) (form : S) (line : ℕ) (o : Bool)
    (held bs : List ℕ) (within : Within next a_gap) (run : IsUnbroken held)
    (a : AtAfter f H next form line o held bs) where
  -- one -1 more ends the section
  one_closed : is_minus_one (integer held) ≡ true → Closed f a.before a.word a.first (a.toks ++ whole held line ∷ [])
  one_closed minus = record {
    extent = λ more. ap (f.extent a.before a.word) (append_assoc a.toks (whole held line ∷ []) more)
        ∙ a.ends.extent (whole held line ∷ more)
        ∙ rw minus
        (ap (λ (k : ℕ). record { count = k; closed = true; at_eof = false })
        (omega (arith, length-append a.toks (whole held line ∷ []))));
    clean = a.ends.clean (whole held line ∷ []);
    trailing = a.ends.trailing (whole held line ∷ []);
  }

  pub one_ends : is_minus_one (integer held) ≡ true → AtClose f H next form line bs
  one_ends minus = let closed = one_closed minus in record {
    before = a.before;
    word = a.word;
    first = a.first;
    toks = a.toks ++ whole held line ∷ [];
    holds = a.holds (whole held line ∷ []);
    closed = closed;
    last = last_line-append a.first a.toks (whole held line ∷ []);
    same = λ e more n. a.same e more n
        ∙ in_section-token f a.before a.word a.first a.toks held e line more run (within e more n)
        (λ rest. rw (closed.extent rest) (omega arith));
  }

-- a line of its own that begins with no letter
module _ {V : Type 0} (f : Format V) (before : List Piece) (upto : ℕ) (e : Bool) (n : ℕ) (bs : List ℕ)
    (lt : upto < n) where
  from_line-run : (held : List ℕ) → IsUnbroken held → begins_word held ≡ false →
      from_line f before upto held e n bs ≡ Some (Err (record { line = n; kind = kinds.TrailingData }))
  unfolding from_line cut judge
  from_line-run [] run other = absurd run
  from_line-run (b ∷ t) run other =
      let k = first_line e n bs in
      let later : leb n upto ≡ false = lt-leb _ _ lt in
      rw (k.is, later, run_head b t run, other) refl

-- after the -1, a token that is no -1
module _ {V S : Type 0} (f : Format V) (H : S → List Piece → Type 0) (next : Next) (form : S) (line : ℕ)
    (held bs : List ℕ) (run : IsUnbroken held) (other : begins_word held ≡ false)
    (none : (e : Bool) (more : List ℕ) → next e more ≡ true → one_more (tokens (prepend held (lines e line more))) ≡ 0)
  where
    pub one_other : (o : Bool) → AtAfter f H next form line o held bs →
        DecidesIf f next bs (Err (record { line = line; kind = kinds.TrailingData }))
    one_other true a e more n =
        a.same e more n ∙ in_section-another f a.before a.word a.first a.toks held e line more run a.last
        (alone_trailing a.ends) (alone_extent a.ends _ (none e more n))
    one_other false a e more n =
        a.same e more n
        ∙ in_section-closed f a.before a.word a.first a.toks held e line more a.last
        (alone_extent a.ends _ (none e more n)) (alone_clean a.ends)
        ∙ from_line-run f (a.before ++ a_section a.word a.first a.toks Clean) (last_line a.first a.toks) e line more
        a.last held run other

-- no -1 in a token that has ended
pub none_whole : (held : List ℕ) (line : ℕ) (next : Next) → Within next a_gap → IsUnbroken held
    → is_minus_one (integer held) ≡ false
    → (e : Bool) (more : List ℕ) → next e more ≡ true → one_more (tokens (prepend held (lines e line more))) ≡ 0
none_whole held line next within run minus e more n =
    let s = split_at held e line more run (within e more n) in
    rw (s.first.is, s.split, minus) refl

-- nor where the bytes show that it is none
pub none_shown : (b : ℕ) (t : List ℕ) (line : ℕ) → IsUnbroken (b ∷ t) → begins_minus_one (b ∷ t) ≡ false
    → (e : Bool) (more : List ℕ) → one_more (tokens (prepend (b ∷ t) (lines e line more))) ≡ 0
none_shown b t line run other e more =
    let k = first_line e line more in
    let u = front_token k.whole line (b ∷ t) k.bytes run in
    rw (k.is, u.is, no_more b t u.bytes other, no_more_with_one b t u.bytes other)
    (no_minus_one u.whole false false refl refl)

-- what may be -1 begins with no letter
pub minus_first : (held : List ℕ) → IsUnbroken held → begins_minus_one held ≡ true → begins_word held ≡ false
minus_first [] run more = absurd run
minus_first (b ∷ held) run more = let is = begins_minus b held more in rw is refl

-- ---- a byte that shows it

module _ {V S : Type 0} (f : Format V) (H : S → List Piece → Type 0) (form : S) (line b : ℕ) where
  -- the first byte after the -1
  pub shown_first : (bs : List ℕ) (o : Bool) → eqb b LF ≡ false → is_blank b ≡ false → is_letter b ≡ false
      → eqb b 45 ≡ false → AtAfter f H (this b) form line o [] bs
      → DecidesIf f anything (bs ++ b ∷ []) (Err (record { line = line; kind = kinds.TrailingData }))
  shown_first bs o other solid no_letter no_minus a =
      one_other f H anything form line (b ∷ []) (bs ++ b ∷ []) solid no_letter
      (λ e more n. none_shown b [] line solid (other_begins b [] no_minus) e more) o
      (after_byte f H form line b bs o [] other a)

  -- a byte of the token
  pub shown_later : (held bs : List ℕ) (o : Bool) → IsUnbroken held → begins_minus_one held ≡ true → is_blank b ≡ false
      → eqb b LF ≡ false → begins_minus_one (held ++ b ∷ []) ≡ false → AtAfter f H (this b) form line o held bs
      → DecidesIf f anything (bs ++ b ∷ []) (Err (record { line = line; kind = kinds.TrailingData }))
  shown_later [] bs o run begun solid other none a = absurd run
  shown_later (c ∷ held) bs o run begun solid other none a =
      let more : IsUnbroken ((c ∷ held) ++ b ∷ []) = run_more (c ∷ held) b run solid in
      one_other f H anything form line (c ∷ (held ++ b ∷ [])) (bs ++ b ∷ []) more (minus_first (c ∷ held) run begun)
      (λ e rest n. none_shown c (held ++ b ∷ []) line more none e rest) o
      (after_byte f H form line b bs o (c ∷ held) other a)

-- ---- nothing is decided before the token has ended

module _ {V S : Type 0} (f : Format V) (H : S → List Piece → Type 0) (form : S) (line : ℕ) (held bs : List ℕ) where
  open_one_law : (before : List Piece) (word : Keyword) (n0 : ℕ) (toks : List Token) → IsUnbroken held →
      begins_minus_one held ≡ true → EndsWithMinusOne f before word n0 toks →
      in_section f before word n0 toks held false line [] ≡ None
  unfolding in_section goes new_pieces cut judge lines
  open_one_law before word n0 toks run begun ends =
      let t : Token = record { bytes = held; line = line; whole = false } in
      let extent : f.extent before word
      (toks ++ t ∷ []) ≡ record { count = length (toks ++ t ∷ []); closed = true; at_eof = false } =
      ends.extent (t ∷ [])
      ∙ rw begun
      (ap (λ (k : ℕ). record { count = k; closed = true; at_eof = false })
      (omega (arith, length-append toks (t ∷ [])))) in
      let last : last_line n0 (toks ++ t ∷ []) ≡ line = last_line-append n0 toks (t ∷ []) in
      let clean : f.section before word n0 (toks ++ t ∷ []) Clean ≡ None = ends.clean (t ∷ []) in
      rw (
        append-nil held,
        tokens_of-open line held run,
        extent,
        take-length (toks ++ t ∷ []),
        get_end (toks ++ t ∷ []),
        and_false,
        clean,
        last,
        eq-leb line,
      ) refl
    where
      eq-leb : (n : ℕ) → leb n n ≡ true
      eq-leb n = le-leb _ _ (omega arith)

  pub open_minus_one : (o : Bool) → IsUnbroken held → begins_minus_one held ≡ true →
      AtAfter f H anything form line o held bs → decided_by f false bs ≡ None
  open_minus_one o run begun a =
      at_none f form line bs _ (a.same false [] refl) (open_one_law a.before a.word a.first a.toks run begun a.ends)
