-- What a line says whose word is known.
use Rattle.std.proofs.Common.{◌≡◌, ℕ, suc, ◌<◌, Bool, true, false, eqb, leb, ltb, not, ◌&&◌, List, [], ◌∷◌, ◌++◌}
use Rattle.std.proofs.Common.{length, Option, Some, None, Result, Err, refl, sym, ap, subst, ◌∙◌, append_assoc, arith}
use Rattle.std.proofs.lemmas.List.{append-nil, length-append}
use Rattle.std.proofs.lemmas.Bool.{eqb-true, lt-leb, le-ltb, lt-ltb, ne_eqb, not-true, true≢false}
use Rattle.tk_words.specs.declared.keyword.Keyword.{Keyword}
use Rattle.tk_words.specs.declared.keyword.Role.TheVariants.{BeginsHeader, BeginsSection, EndsText}
use Rattle.tk_words.specs.declared.fault.TextKind.{TextKind}
use Rattle.tk_words.specs.declared.fault.TextKind.TheVariants as kinds
use Rattle.tk_words.specs.declared.fault.TextFault.{TextFault}
use Rattle.tk_words.specs.Lex.{LF, Line, Token, onto_line, lines, is_blank, is_letter, is_word_byte, is_empty, front}
use Rattle.tk_words.specs.Lex.{behind}
use Rattle.tk_words.specs.Words.{keyword_of, role}
use Rattle.tk_lines.specs.Pieces.{Piece, Extents, After, Header, Fault, pieces_at, piece_of, covered, cut, end_piece}
use Rattle.tk_lines.specs.Pieces.{Format, stop, judge, stopped, ended}
use Rattle.tk_lines.specs.Reader.FromMiddle.{from_line}
use Rattle.tk_lines.specs.Reader.Places.{no_word, IsWord}
use Rattle.tk_lines.specs.Reader.Handlers.{whole}
use Rattle.tk_lines.proofs.MiddleOfLine.{prepend-nil, lines-byte, lines-LF, end_token-bytes, from_line-LF}
use Rattle.tk_words.proofs.BoolLaws.{and_false}
use Rattle.tk_lines.proofs.Sections.SectionEnds.{First, first_line}
use Rattle.tk_lines.proofs.Headers.ByteRuns.{behind-all, front-all}
use Rattle.std.specs.List.{AllByRecursion}

-- no line ends among them
abbrev pub OnOneLine : List ℕ → Type 0
OnOneLine bs = AllByRecursion (λ b. eqb b LF ≡ false) bs

-- a run that is all of a front
abbrev pub begins_no : (ℕ → Bool) → List ℕ → Bool
begins_no p [] = true
begins_no p (b ∷ bs) = not (p b)

front_none : (p : ℕ → Bool) (xs : List ℕ) → begins_no p xs ≡ true → front p xs ≡ []
front_none p [] h = refl
front_none p (b ∷ bs) h = rw (not-true (p b) h) refl

pub behind_none : (p : ℕ → Bool) (xs : List ℕ) → begins_no p xs ≡ true → behind p xs ≡ xs
behind_none p [] h = refl
behind_none p (b ∷ bs) h = rw (not-true (p b) h) refl

-- what comes after a word on its line, where the word has ended
pub record WordEnds (tail x : List ℕ) (w : Bool) : Type 0 where
  pub begins : begins_no is_word_byte (tail ++ x) ≡ true
  pub known : (not w && is_empty (tail ++ x)) ≡ false

unfoldable pub first-byte : (e : Bool) (n b : ℕ) (bs : List ℕ) → eqb b LF ≡ false → First e n (b ∷ bs)
first-byte e n b bs other = let k = first_line e n bs in
    record {
      bytes = b ∷ k.bytes;
      whole = k.whole;
      rest = k.rest;
      is = lines-byte e n b bs other
          ∙ ap (onto_line b) k.is;
    }

unfoldable pub first-LF : (e : Bool) (n : ℕ) (bs : List ℕ) → First e n (LF ∷ bs)
first-LF e n bs = record { bytes = []; whole = true; rest = lines e (suc n) bs; is = lines-LF e n bs }

-- the first line of bytes after which a word has ended
pub record Behind (tail : List ℕ) (e : Bool) (n : ℕ) (bs : List ℕ) : Type 0 where
  pub first : First e n bs
  pub ends : WordEnds tail first.bytes first.whole

pub word_ends_behind : (tail : List ℕ) (e : Bool) (n : ℕ) (bs : List ℕ) → no_word e (tail ++ bs) ≡ true →
    Behind tail e n bs
unfolding lines first-byte first-LF
word_ends_behind (d ∷ tail) e n bs h = let k = first_line e n bs in
    record { first = k; ends = record { begins = h; known = and_false (not k.whole) } }
word_ends_behind [] e n [] h =
    record {
      first = record { bytes = []; whole = e; rest = []; is = refl };
      ends = record { begins = refl; known = rw h refl };
    }
word_ends_behind [] e n (b ∷ bs) h = by_lf (eqb b LF) refl
  where
    by_lf : (t : Bool) → eqb b LF ≡ t → Behind [] e n (b ∷ bs)
    by_lf true is = let e-is : b ≡ LF = eqb-true _ _ is in
        subst (λ (c : ℕ). Behind [] e n (c ∷ bs)) (sym e-is)
        (record { first = first-LF e n bs; ends = record { begins = refl; known = refl } })
    by_lf false is = let k = first-byte e n b bs is in
        record { first = k; ends = record { begins = h; known = and_false (not k.whole) } }

-- a byte with a property is none without it
pub differs : (p : ℕ → Bool) (b c : ℕ) → p b ≡ true → p c ≡ false → eqb b c ≡ false
differs p b c has lacks = ne_eqb b c (λ is. true≢false (sym has ∙ ap p is ∙ lacks))

pub blank_letter : (b : ℕ) → is_letter b ≡ true → is_blank b ≡ false
blank_letter b h =
    rw (differs is_letter b 32 h refl, differs is_letter b 9 h refl, differs is_letter b 13 h refl) refl

-- the pieces of a line whose word has ended
pieces_at-word : (extent : Extents) (before : List Piece) (l : Line) (held y : List ℕ) (ls : List Line) → IsWord held
    → begins_no is_word_byte y ≡ true → (not l.whole && is_empty y) ≡ false
    → pieces_at extent before l ls (held ++ y) ≡ piece_of extent before l ls y (keyword_of held)
pieces_at-word extent before l [] y ls h begins known = absurd h
pieces_at-word extent before l (b ∷ t) y ls h begins known =
    let word : front is_word_byte ((b ∷ t) ++ y) ≡ b ∷ t = front-all is_word_byte (b ∷ t) y h.1
    ∙ rw (front_none is_word_byte y begins) (append-nil (b ∷ t)) in
    let rest : behind is_word_byte ((b ∷ t) ++ y) ≡ y = behind-all is_word_byte (b ∷ t) y h.1
    ∙ behind_none is_word_byte y begins in
    let short : ltb 64 (length (b ∷ t)) ≡ false = le-ltb _ _ h.2 in
    rw (word, rest, h.0, short, known) refl

pub behind_word : (held y : List ℕ) → IsWord held → behind is_blank (held ++ y) ≡ held ++ y
behind_word [] y h = absurd h
behind_word (b ∷ t) y h = rw (blank_letter b h.0) refl

module _ {V : Type 0} (f : Format V) (before : List Piece) (upto : ℕ) (held tail : List ℕ) (e : Bool) (n : ℕ)
    (bs : List ℕ) (lt : upto < n) (is_word : IsWord held) (ends : no_word e (tail ++ bs) ≡ true) where
  -- a line whose word has ended: its pieces, and those after
  unfoldable pub after_line : List Piece → List Line → List Line → Option (Result V TextFault)
  after_line new ls all = judge f before ((new ++ cut f.extent (before ++ new) (covered upto new) ls) ++ end_piece all)

  unfoldable pub new_at : Line → List Line → List ℕ → List Piece
  new_at l ls y = piece_of f.extent before l ls y (keyword_of held)

  pub from_line-word : let k = word_ends_behind tail e n bs ends in
      let l : Line = record { number = n; bytes = (held ++ tail) ++ k.first.bytes; whole = k.first.whole } in
      from_line f before upto (held ++ tail) e n bs ≡ after_line (new_at l k.first.rest (tail ++ k.first.bytes))
      k.first.rest (l ∷ k.first.rest)
  unfolding from_line cut after_line new_at
  from_line-word =
      let k = word_ends_behind tail e n bs ends in
      let l : Line = record { number = n; bytes = (held ++ tail) ++ k.first.bytes; whole = k.first.whole } in
      let later : leb n upto ≡ false = lt-leb _ _ lt in
      let bytes : behind is_blank ((held ++ tail) ++ k.first.bytes) ≡ held ++ (tail ++ k.first.bytes) =
      ap (behind is_blank) (append_assoc held tail k.first.bytes)
      ∙ behind_word held (tail ++ k.first.bytes) is_word in
      let ps : pieces_at f.extent before l k.first.rest (behind is_blank ((held ++ tail) ++ k.first.bytes)) ≡ piece_of
      f.extent before l k.first.rest (tail ++ k.first.bytes) (keyword_of held) =
      ap (pieces_at f.extent before l k.first.rest) bytes
      ∙ pieces_at-word f.extent before l held (tail ++ k.first.bytes) k.first.rest is_word k.ends.begins
      k.ends.known in
      rw (
        k.first.is,
        later,
        ps,
        end_token-bytes (record { number = n; bytes = k.first.bytes; whole = k.first.whole })
            ((held ++ tail) ++ k.first.bytes) k.first.rest,
      ) refl

  pub from_line-unknown : keyword_of held ≡ None →
      from_line f before upto (held ++ tail) e n bs ≡ Some (Err (record { line = n; kind = kinds.UnknownKeyword }))
  unfolding judge after_line new_at
  from_line-unknown none = from_line-word ∙ rw none refl

  pub from_line-eof : (word : Keyword) → keyword_of held ≡ Some word → role word ≡ EndsText →
      from_line f before upto (held ++ tail) e n bs ≡ ended f before n true (f.at_end before)
  unfolding judge after_line new_at
  from_line-eof word is ends_text = from_line-word ∙ rw (is, ends_text) refl

  -- a section's word at which the format stops
  pub from_line-section : (word : Keyword) (k : TextKind) → keyword_of held ≡ Some word → role word ≡ BeginsSection
      → ((toks : List Token) (after : After) → f.section before word n toks after ≡ Some (Fault n k))
      → from_line f before upto (held ++ tail) e n bs ≡ Some (Err (record { line = n; kind = k }))
  unfolding judge after_line new_at
  from_line-section word k is begins stops = from_line-word ∙ rw (is, begins, stops) refl

  -- a header that is too long, or goes on
  pub from_line-long : (word : Keyword) → keyword_of held ≡ Some word → role word ≡ BeginsHeader → 4096 < length tail
      → from_line f before upto (held ++ tail) e n bs ≡ Some (Err (record { line = n; kind = kinds.TooLong }))
  unfolding judge after_line new_at
  from_line-long word is begins long =
      let k = word_ends_behind tail e n bs ends in
      let test : ltb 4096 (length (tail ++ k.first.bytes)) ≡ true =
      lt-ltb _ _ (omega (arith, long, length-append tail k.first.bytes)) in
      from_line-word ∙ rw (is, begins, test) refl

module _ {V : Type 0} (f : Format V) (before : List Piece) (upto : ℕ) (held tail : List ℕ) (n : ℕ) (lt : upto < n)
    (is_word : IsWord held) (word : Keyword) (is : keyword_of held ≡ Some word)
    (begins : role word ≡ BeginsHeader) where
  -- a header and its line's end
  pub from_line-header : (e : Bool) (bs : List ℕ) → no_word e (tail ++ LF ∷ bs) ≡ true
      → from_line f before upto (held ++ tail) e n (LF ∷ bs) ≡ stopped (stop f before (Header word (whole tail n)))
      (from_line f (before ++ Header word (whole tail n) ∷ []) upto [] e (suc n) bs)
  unfolding from_line judge
  from_line-header e bs ends =
      let p : Piece = Header word (whole tail n) in
      let l : Line = record { number = n; bytes = held ++ tail; whole = true } in
      let ps : pieces_at f.extent before l (lines e (suc n) bs) (behind is_blank (held ++ tail)) ≡ p ∷ [] =
      ap (pieces_at f.extent before l (lines e (suc n) bs)) (behind_word held tail is_word)
      ∙ pieces_at-word f.extent before l held tail (lines e (suc n) bs) is_word (begins_tail tail e bs ends) refl
      ∙ rw (is, begins) refl in
      from_line-LF f before (p ∷ []) upto (held ++ tail) e n bs lt ps ∙ rw (prepend-nil (lines e (suc n) bs)) refl
    where
      begins_tail : (y : List ℕ) (e : Bool) (bs : List ℕ) → no_word e (y ++ LF ∷ bs) ≡ true →
          begins_no is_word_byte y ≡ true
      begins_tail [] e bs h = refl
      begins_tail (c ∷ y) e bs h = h

  -- a header and the end of the bytes
  pub from_line-last : no_word true tail ≡ true
      → from_line f before upto (held ++ tail) true n [] ≡ stopped (stop f before (Header word (whole tail n)))
      (ended f (before ++ Header word (whole tail n) ∷ []) n true
      (f.at_end (before ++ Header word (whole tail n) ∷ [])))
  unfolding from_line judge lines cut
  from_line-last ends =
      let p : Piece = Header word (whole tail n) in
      let l : Line = record { number = n; bytes = held ++ tail; whole = true } in
      let later : leb n upto ≡ false = lt-leb _ _ lt in
      let ps : pieces_at f.extent before l [] (behind is_blank (held ++ tail)) ≡ p ∷ [] =
      ap (pieces_at f.extent before l []) (behind_word held tail is_word)
      ∙ pieces_at-word f.extent before l held tail [] is_word (begins_tail tail ends) refl ∙ rw (is, begins) refl in
      rw (append-nil (held ++ tail), later, ps) refl
    where
      begins_tail : (y : List ℕ) → no_word true y ≡ true → begins_no is_word_byte y ≡ true
      begins_tail [] h = refl
      begins_tail (c ∷ y) h = h
