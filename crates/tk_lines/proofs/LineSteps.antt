-- What a byte does outside the sections.
use Rattle.std.proofs.Common.{◌≡◌, ℕ, suc, ◌+◌, ◌<◌, ◌≤◌, Bool, true, false, cond, eqb, leb, ltb, List, [], ◌∷◌, ◌++◌}
use Rattle.std.proofs.Common.{length, Option, Some, None, Result, Ok, Err, refl, sym, ap, subst, ◌∙◌, append_assoc}
use Rattle.std.proofs.Common.{arith}
use Rattle.std.proofs.lemmas.List.{append-nil, length-append}
use Rattle.std.proofs.lemmas.List.Sums.{sum_by-append}
use Rattle.std.proofs.lemmas.Bool.{eqb-true, eq-eqb, lt-leb, le-ltb, lt-ltb}
use Rattle.tk_words.specs.declared.keyword.Keyword.{Keyword}
use Rattle.tk_words.specs.declared.keyword.Role.{Role}
use Rattle.tk_words.specs.declared.keyword.Role.TheVariants.{BeginsHeader, BeginsSection, EndsText}
use Rattle.tk_words.specs.declared.fault.TextKind.{TextKind}
use Rattle.tk_words.specs.declared.fault.TextKind.TheVariants as kinds
use Rattle.tk_words.specs.declared.fault.TextFault.{TextFault}
use Rattle.tk_words.specs.Lex.{LF, Line, Token, is_blank, is_letter, is_word_byte, front, behind}
use Rattle.tk_words.specs.Words.{keyword_of, role}
use Rattle.tk_lines.specs.Pieces.{Piece, Extents, After, Fault, Header, first_at, pieces_at, piece_of, piece_by}
use Rattle.tk_lines.specs.Pieces.{cut, Format, stop, judge, ended, decided_by}
use Rattle.tk_lines.specs.Reader.FromMiddle.{from_line}
use Rattle.tk_words.specs.Texts.{line_behind}
use Rattle.tk_lines.specs.Reader.Handlers.{whole, a_header}
use Rattle.tk_lines.specs.Reader.Places.{Next, Within, anything, this, no_word, a_line_end, Says, DecidesIf, IsWord}
use Rattle.tk_lines.specs.Reader.Places.{AtLine, AtTail, HeaderTaken}
use Rattle.tk_lines.proofs.MiddleOfLine.{with_bytes, from_line-byte, from_line-blank}
use Rattle.tk_lines.proofs.Sections.SectionEnds.{first_line}
use Rattle.tk_lines.proofs.Headers.ByteRuns.{behind-all, front-all}
use Rattle.tk_lines.proofs.KnownWordLines.{from_line-unknown, from_line-eof, from_line-section, from_line-long}
use Rattle.tk_lines.proofs.KnownWordLines.{from_line-header}
use Rattle.tk_lines.proofs.KnownWordLines.{from_line-last, blank_letter, differs}
use Rattle.tk_lines.proofs.SameStates.{line_reported}

-- ---- lines of bytes

abbrev is_lf : ℕ → ℕ
is_lf b = cond (eqb b 10) 1 0

pub line_behind-byte : (bs : List ℕ) (b : ℕ) → eqb b LF ≡ false → line_behind (bs ++ b ∷ []) ≡ line_behind bs
line_behind-byte bs b h = ap suc (sum_by-append is_lf bs (b ∷ []) ∙ rw h (omega arith))

pub line_behind-LF : (bs : List ℕ) → line_behind (bs ++ LF ∷ []) ≡ line_behind bs + 1
line_behind-LF bs = ap suc (sum_by-append is_lf bs (LF ∷ [])) ∙ omega arith

-- ---- a line's own bytes count only by what comes after the blanks

piece_by-line : (extent : Extents) (before : List Piece) (l : Line) (x : List ℕ) (ls : List Line) (tail : List ℕ)
    (word : Keyword) (r : Role) →
    piece_by extent before (with_bytes l x) ls tail word r ≡ piece_by extent before l ls tail word r
piece_by-line extent before l x [] tail word BeginsSection = refl
piece_by-line extent before l x _ tail word _ = refl

piece_of-line : (extent : Extents) (before : List Piece) (l : Line) (x : List ℕ) (ls : List Line) (tail : List ℕ)
    (word : Option Keyword) →
    piece_of extent before (with_bytes l x) ls tail word ≡ piece_of extent before l ls tail word
piece_of-line extent before l x ls tail None = refl
piece_of-line extent before l x ls tail (Some word) = piece_by-line extent before l x ls tail word (role word)

pub pieces_at-line : (extent : Extents) (before : List Piece) (l : Line) (x : List ℕ) (ls : List Line) (y : List ℕ) →
    pieces_at extent before (with_bytes l x) ls y ≡ pieces_at extent before l ls y
pieces_at-line extent before l x ls [] = refl
pieces_at-line extent before l x ls (b ∷ bs) =
    rw (piece_of-line extent before l x ls (behind is_word_byte (b ∷ bs)) (keyword_of (front is_word_byte (b ∷ bs))))
    refl

module _ {V : Type 0} (f : Format V) (before : List Piece) (upto : ℕ) (e : Bool) (n : ℕ) (bs : List ℕ) where
  -- a blank before a line's word
  from_line-drop : (b : ℕ) → is_blank b ≡ true →
      from_line f before upto (b ∷ []) e n bs ≡ from_line f before upto [] e n bs
  unfolding from_line cut
  from_line-drop b blank =
      let k = first_line e n bs in
      let l : Line = record { number = n; bytes = k.bytes; whole = k.whole } in
      rw (k.is, blank, pieces_at-line f.extent before l (b ∷ k.bytes) k.rest (behind is_blank k.bytes)) refl

  from_line-stray : (b : ℕ) → upto < n → is_blank b ≡ false → is_letter b ≡ false →
      from_line f before upto (b ∷ []) e n bs ≡ Some (Err (record { line = n; kind = kinds.TrailingData }))
  unfolding from_line cut judge
  from_line-stray b lt solid other =
      let k = first_line e n bs in
      let later : leb n upto ≡ false = lt-leb _ _ lt in
      rw (k.is, later, solid, other) refl

  -- a word of more than 64 bytes
  from_line-long_word : (b : ℕ) (t : List ℕ) → upto < n → is_letter b ≡ true → behind is_word_byte (b ∷ t) ≡ [] →
      64 < length (b ∷ t) →
      from_line f before upto (b ∷ t) e n bs ≡ Some (Err (record { line = n; kind = kinds.TooLong }))
  unfolding from_line cut judge
  from_line-long_word b t lt letter all long =
      let k = first_line e n bs in
      let later : leb n upto ≡ false = lt-leb _ _ lt in
      let word : front is_word_byte ((b ∷ t) ++ k.bytes) ≡ (b ∷ t) ++ front is_word_byte k.bytes =
      front-all is_word_byte (b ∷ t) k.bytes all in
      let test : ltb 64 (length ((b ∷ t) ++ front is_word_byte k.bytes)) ≡ true =
      lt-ltb _ _ (omega (arith, long, length-append (b ∷ t) (front is_word_byte k.bytes))) in
      rw (k.is, later, blank_letter b letter, word, test, letter) refl

pub is_letter-word : (b : ℕ) → is_letter b ≡ true → is_word_byte b ≡ true
is_letter-word b h = rw h refl

-- ---- steps

module _ {V : Type 0} (f : Format V) (b : ℕ) (bs : List ℕ) where
  pub says_byte : (g h : Bool → List ℕ → Option (Result V TextFault)) → Says f (this b) bs g →
      ((e : Bool) (more : List ℕ) → g e (b ∷ more) ≡ h e more) → Says f anything (bs ++ b ∷ []) h
  says_byte g h says goes e more any = ap (decided_by f e) (append_assoc bs (b ∷ []) more)
      ∙ says e (b ∷ more) (eq-eqb b b refl) ∙ goes e more

  pub decides_byte : (a : Result V TextFault) → DecidesIf f (this b) bs a → DecidesIf f anything (bs ++ b ∷ []) a
  decides_byte a h = says_byte _ _ h (λ e more. refl)

pub stop_header : {V : Type 0} (f : Format V) (before : List Piece) (word : Keyword) (tail : List ℕ) (n : ℕ) →
    length tail ≤ 4096 → stop f before (Header word (whole tail n)) ≡ first_at n (f.header before word tail)
stop_header f before word tail n short = rw (le-ltb _ _ short) refl

module _ {V S : Type 0} (f : Format V) (H : S → List Piece → Type 0) (form : S) (line b : ℕ) (bs : List ℕ) where
  pub line_LF : AtLine f H (this LF) form line [] bs → AtLine f H anything form (line + 1) [] (bs ++ LF ∷ [])
  line_LF a =
      line_reported a (omega (arith, a.lt))
      (says_byte f LF bs _ _ a.same (λ e more. from_line-blank f a.before a.upto [] e line more a.lt refl
      ∙ ap (λ (n : ℕ). from_line f a.before a.upto [] e n more) (omega arith)))

  pub line_byte : (pre : List ℕ) → eqb b LF ≡ false → AtLine f H (this b) form line pre bs →
      AtLine f H anything form line (pre ++ b ∷ []) (bs ++ b ∷ [])
  line_byte pre other a =
      line_reported a a.lt
      (says_byte f b bs _ _ a.same (λ e more. from_line-byte f a.before a.upto pre e line b more other))

  pub line_blank : eqb b LF ≡ false → is_blank b ≡ true → AtLine f H (this b) form line [] bs →
      AtLine f H anything form line [] (bs ++ b ∷ [])
  line_blank other blank a =
      line_reported a a.lt
      (says_byte f b bs _ _ a.same (λ e more. from_line-byte f a.before a.upto [] e line b more other
      ∙ from_line-drop f a.before a.upto e line more b blank))

  pub line_stray : eqb b LF ≡ false → is_blank b ≡ false → is_letter b ≡ false → AtLine f H (this b) form line [] bs →
      DecidesIf f anything (bs ++ b ∷ []) (Err (record { line = line; kind = kinds.TrailingData }))
  line_stray other solid no_letter a =
      says_byte f b bs _ _ a.same (λ e more. from_line-byte f a.before a.upto [] e line b more other
      ∙ from_line-stray f a.before a.upto e line more b a.lt solid no_letter)

  pub word_more : (held : List ℕ) → IsWord held → length held < 64 → is_word_byte b ≡ true → IsWord (held ++ b ∷ [])
  word_more [] h room is = absurd h
  word_more (c ∷ t) h room is = (
    h.0,
    behind-all is_word_byte (c ∷ t) (b ∷ []) h.1
        ∙ rw is refl,
    omega (arith, room, length-append (c ∷ t) (b ∷ [])),
  )

  pub word_long : (held : List ℕ) → IsWord held → length held ≡ 64 → is_word_byte b ≡ true → eqb b LF ≡ false →
      AtLine f H (this b) form line held bs →
      DecidesIf f anything (bs ++ b ∷ []) (Err (record { line = line; kind = kinds.TooLong }))
  word_long [] h full is other a = absurd h
  word_long (c ∷ t) h full is other a =
      says_byte f b bs _ _ a.same (λ e more. from_line-byte f a.before a.upto (c ∷ t) e line b more other ∙
      from_line-long_word f a.before a.upto e line more c (t ++ b ∷ []) a.lt h.0
      (behind-all is_word_byte (c ∷ t) (b ∷ []) h.1 ∙ rw is refl)
      (omega (arith, full, length-append (c ∷ t) (b ∷ []))))

-- ---- where a word ends

module _ {V S : Type 0} (f : Format V) (H : S → List Piece → Type 0) (next : Next) (form : S) (line : ℕ)
    (held bs : List ℕ) (within : Within next no_word) (is_word : IsWord held)
    (a : AtLine f H next form line held bs) where
  at_word : (e : Bool) (more : List ℕ) → next e more ≡ true →
      decided_by f e (bs ++ more) ≡ from_line f a.before a.upto (held ++ []) e line more
  at_word e more n = a.same e more n
      ∙ ap (λ (x : List ℕ). from_line f a.before a.upto x e line more) (sym (append-nil held))

  pub word_unknown : keyword_of held ≡ None →
      DecidesIf f next bs (Err (record { line = line; kind = kinds.UnknownKeyword }))
  word_unknown none e more n = at_word e more n
      ∙ from_line-unknown f a.before a.upto held [] e line more a.lt is_word (within e more n) none

  word_eof : (word : Keyword) → keyword_of held ≡ Some word → role word ≡ EndsText → (e : Bool) (more : List ℕ) →
      next e more ≡ true → decided_by f e (bs ++ more) ≡ ended f a.before line true (f.at_end a.before)
  word_eof word is ends e more n = at_word e more n
      ∙ from_line-eof f a.before a.upto held [] e line more a.lt is_word (within e more n) word is ends

  pub word_eof_ok : (word : Keyword) → keyword_of held ≡ Some word → role word ≡ EndsText → f.at_end a.before ≡ None →
      (v : V) → v ≡ f.value a.before → DecidesIf f next bs (Ok v)
  word_eof_ok word is ends none v v_is e more n = word_eof word is ends e more n ∙ rw (none, v_is) refl

  pub word_eof_err : (word : Keyword) → keyword_of held ≡ Some word → role word ≡ EndsText → (k : TextKind) →
      f.at_end a.before ≡ Some k → DecidesIf f next bs (Err (record { line = line; kind = k }))
  word_eof_err word is ends k some e more n = word_eof word is ends e more n ∙ rw some refl

  pub word_section : (word : Keyword) (k : TextKind) → keyword_of held ≡ Some word → role word ≡ BeginsSection
      → ((toks : List Token) (after : After) → f.section a.before word line toks after ≡ Some (Fault line k)) →
      DecidesIf f next bs (Err (record { line = line; kind = k }))
  word_section word k is begins stops e more n = at_word e more n
      ∙ from_line-section f a.before a.upto held [] e line more a.lt is_word (within e more n) word k is begins stops

  pub word_tail : (word : Keyword) → keyword_of held ≡ Some word → AtTail f next line held word a.before [] bs
  word_tail word is =
      record { upto = a.upto; lt = a.lt; is_word = is_word; word_is = is; settled = within; same = at_word }

-- ---- in a header's value

module _ {V : Type 0} (f : Format V) (line b : ℕ) (held bs : List ℕ) (word : Keyword) (before : List Piece)
    (tail : List ℕ) where
  settled_tail : (next : Next) → ((e : Bool) (more : List ℕ) → this b e more ≡ true → no_word e (tail ++ more) ≡ true) →
      (e : Bool) (more : List ℕ) → no_word e ((tail ++ b ∷ []) ++ more) ≡ true
  settled_tail next h e more = ap (no_word e) (append_assoc tail (b ∷ []) more) ∙ h e (b ∷ more) (eq-eqb b b refl)

  pub tail_byte : eqb b LF ≡ false → AtTail f (this b) line held word before tail bs →
      AtTail f anything line held word before (tail ++ b ∷ []) (bs ++ b ∷ [])
  tail_byte other a = record {
    upto = a.upto;
    lt = a.lt;
    is_word = a.is_word;
    word_is = a.word_is;
    settled = λ e more any. settled_tail anything a.settled e more;
    same = says_byte f b bs _ _ a.same (λ e more. from_line-byte f before a.upto (held ++ tail) e line b more other
        ∙ ap (λ (x : List ℕ). from_line f before a.upto x e line more) (append_assoc held tail (b ∷ [])));
  }

  pub tail_long : role word ≡ BeginsHeader → 4096 < length (tail ++ b ∷ []) → eqb b LF ≡ false →
      AtTail f (this b) line held word before tail bs →
      DecidesIf f anything (bs ++ b ∷ []) (Err (record { line = line; kind = kinds.TooLong }))
  tail_long header long other a =
      says_byte f b bs _ _ a.same (λ e more. from_line-byte f before a.upto (held ++ tail) e line b more other
      ∙ ap (λ (x : List ℕ). from_line f before a.upto x e line more) (append_assoc held tail (b ∷ [])) ∙
      from_line-long f before a.upto held (tail ++ b ∷ []) e line more a.lt a.is_word
      (settled_tail anything a.settled e more) word a.word_is header long)

module _ {V : Type 0} (f : Format V) (next : Next) (line : ℕ) (held bs : List ℕ) (word : Keyword) (before : List Piece)
    (tail : List ℕ) (at : AtTail f next line held word before tail bs) (header : role word ≡ BeginsHeader)
    (within : Within next a_line_end) where
  -- a fault of a header
  pub header_err : (k : TextKind) → stop f before (Header word (whole tail line)) ≡ Some (Fault line k) →
      DecidesIf f next bs (Err (record { line = line; kind = k }))
  header_err k stops true [] n = at.same true [] n
      ∙ from_line-last f before at.upto held tail line at.lt at.is_word word at.word_is header
      (subst (λ (x : List ℕ). no_word true x ≡ true) (append-nil tail) (at.settled true [] n)) ∙ rw stops refl
  header_err k stops false [] n = absurd (let m = within false [] n in cc)
  header_err k stops e (c ∷ more) n =
      let lf : c ≡ LF = eqb-true _ _ (within e (c ∷ more) n) in
      at.same e (c ∷ more) n ∙ ap (λ (x : ℕ). from_line f before at.upto (held ++ tail) e line (x ∷ more)) lf
      ∙ from_line-header f before at.upto held tail line at.lt at.is_word word at.word_is header e more
      (subst (λ (x : ℕ). no_word e (tail ++ x ∷ more) ≡ true) lf (at.settled e (c ∷ more) n)) ∙ rw stops refl

module _ {V S : Type 0} (f : Format V) (H : S → List Piece → Type 0) (form : S) (line : ℕ) (held bs : List ℕ)
    (word : Keyword) where
  pub header_LF : HeaderTaken f H (this LF) form line held word bs →
      AtLine f H anything form (line + 1) [] (bs ++ LF ∷ [])
  header_LF a = record {
    before = a.before ++ a_header word a.tail line;
    upto = a.at.upto;
    holds = a.holds;
    lt = omega (arith, a.at.lt);
    same =
        says_byte f LF bs _ _ a.at.same
        (λ e more. from_line-header f a.before a.at.upto held a.tail line a.at.lt a.at.is_word word a.at.word_is
        a.header e more (a.at.settled e (LF ∷ more) refl)
        ∙ rw a.none (ap (λ (n : ℕ). from_line f (a.before ++ a_header word a.tail line) a.at.upto [] e n more)
        (omega arith)));
  }

pub not_LF : (b : ℕ) → is_word_byte b ≡ true → eqb b LF ≡ false
not_LF b h = differs is_word_byte b LF h refl

pub blank_not_LF : (b : ℕ) → is_blank b ≡ true → eqb b LF ≡ false
blank_not_LF b h = differs is_blank b LF h refl
