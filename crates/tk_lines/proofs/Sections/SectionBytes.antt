-- What a section's bytes say.
use Rattle.std.proofs.Common.{◌≡◌, ℕ, ◌<◌, ◌≤◌, Bool, true, false, cond, eqb, not, ◌&&◌, ◌||◌, List, [], ◌∷◌, ◌++◌}
use Rattle.std.proofs.Common.{length, get_or, Some, Err, refl, sym, ap, subst, ◌∙◌, append_assoc, arith}
use Rattle.std.proofs.lemmas.List.{append-nil, length-append}
use Rattle.std.proofs.lemmas.Bool.{eqb-true, eq-eqb, and_parts, not-true}
use Rattle.std.proofs.Math.Bool.{or-false}
use Rattle.tk_words.specs.declared.keyword.Keyword.{Keyword}
use Rattle.tk_words.specs.declared.keyword.Role.TheVariants.{BeginsSection}
use Rattle.tk_words.specs.declared.fault.TextKind.{TextKind}
use Rattle.tk_words.specs.declared.fault.TextKind.TheVariants as kinds
use Rattle.tk_words.specs.Lex.{LF, Line, Token, lines, tokens, tokens_of, onto_token, is_blank, behind, after_word}
use Rattle.tk_words.specs.Lex.{without_colon_before, is_empty, IsUnbroken}
use Rattle.tk_words.specs.Words.{keyword_of, role}
use Rattle.tk_lines.specs.Pieces.{Piece, After, Trailing, Early, End, Fault, section_at, last_line, covered, cut}
use Rattle.tk_lines.specs.Pieces.{end_token, Format, judge, ended}
use Rattle.tk_lines.specs.Reader.FromMiddle.{ending, prepend, from_line, in_section, goes, new_pieces}
use Rattle.tk_lines.specs.Reader.Handlers.{whole, taken, StopsAt, EndsAtEof, a_section}
use Rattle.tk_lines.specs.Reader.Places.{IsWord, a_gap, no_word}
use Rattle.tk_lines.proofs.MiddleOfLine.{with_bytes, end_token-bytes}
use Rattle.tk_lines.proofs.Sections.MiddleOfSection.{token, run_head, tokens_of-more, tokens_of-end, cut-covered}
use Rattle.tk_lines.proofs.Sections.MiddleOfSection.{tokens_of-gap, tokens_of-none, tokens_of-run, tokens_of-last}
use Rattle.tk_lines.proofs.Sections.SectionEnds.{From, First, first_line, to_come, last_taken, take_whole, reaches}
use Rattle.tk_lines.proofs.Headers.ByteRuns.{behind-all, after_colon, after_other}
use Rattle.tk_lines.proofs.KnownWordLines.{word_ends_behind, from_line-word, after_line, new_at, first-byte, first-LF}
use Rattle.tk_lines.proofs.LineSteps.{pieces_at-line}

module _ {V : Type 0} (f : Format V) (before : List Piece) (word : Keyword) (n0 : ℕ) (toks : List Token) (e : Bool)
    (n : ℕ) (bs : List ℕ) where
  -- a blank between tokens
  pub in_section-drop : (b : ℕ) → is_blank b ≡ true →
      in_section f before word n0 toks (b ∷ []) e n bs ≡ in_section f before word n0 toks [] e n bs
  unfolding in_section goes cut
  in_section-drop b blank =
      let k = first_line e n bs in
      let l : Line = record { number = n; bytes = k.bytes; whole = k.whole } in
      rw (
        k.is,
        tokens_of-gap k.whole n b k.bytes blank,
        blank,
        pieces_at-line f.extent _ l (b ∷ k.bytes) k.rest (behind is_blank k.bytes),
      ) refl

-- the first line of bytes before which a token has ended
pub record Split (held : List ℕ) (e : Bool) (n : ℕ) (bs : List ℕ) : Type 0 where
  pub first : First e n bs
  pub split : tokens_of first.whole n (held ++ first.bytes) ≡ token held n ∷ tokens_of first.whole n first.bytes

pub split_at : (held : List ℕ) (e : Bool) (n : ℕ) (bs : List ℕ) → IsUnbroken held → a_gap e bs ≡ true →
    Split held e n bs
unfolding lines first-byte first-LF
split_at held e n [] run h =
    record {
      first = record { bytes = []; whole = e; rest = []; is = refl };
      split = rw (
        h,
        append-nil held,
        tokens_of-last n held run,
        tokens_of-none true n,
      ) refl;
    }
split_at held e n (b ∷ bs) run h = by_lf (eqb b LF) refl
  where
    by_lf : (t : Bool) → eqb b LF ≡ t → Split held e n (b ∷ bs)
    by_lf true is = let lf = eqb-true b LF is in
        subst (λ (c : ℕ). Split held e n (c ∷ bs)) (sym lf)
        (record {
          first = first-LF e n bs;
          split = rw (
            append-nil held,
            tokens_of-last n held run,
            tokens_of-none true n,
          ) refl;
        })
    by_lf false is =
        let k = first_line e n bs in
        let blank : is_blank b ≡ true = sym (or-false (is_blank b)) ∙ (rw is at h) in
        record {
          first = first-byte e n b bs is;
          split = tokens_of-run k.whole n held b k.bytes run blank
              ∙ ap (λ (ts : List Token). token held n ∷ ts) (sym (tokens_of-gap k.whole n b k.bytes blank));
        }

module _ {V : Type 0} (f : Format V) (before : List Piece) (word : Keyword) (n0 : ℕ) (toks : List Token) (held : List ℕ)
    (e : Bool) (n : ℕ) (bs : List ℕ) (run : IsUnbroken held) (gap : a_gap e bs ≡ true) where
  -- the end of a token
  pub in_section-token : ((more : List Token)
      → length (toks ++ token held n ∷ []) ≤ (f.extent before word ((toks ++ token held n ∷ []) ++ more)).count)
      → in_section f before word n0 toks held e n bs ≡ in_section f before word n0 (toks ++ token held n ∷ []) [] e n bs
  unfolding in_section goes new_pieces
  in_section-token covers =
      let s = split_at held e n bs run gap in
      let k = s.first in
      let t = token held n in
      let l : Line = record { number = n; bytes = k.bytes; whole = k.whole } in
      let more : List Token = tokens_of k.whole n k.bytes ++ tokens k.rest in
      let all : toks ++ ((t ∷ tokens_of k.whole n k.bytes) ++ tokens k.rest) ≡ (toks ++ t ∷ []) ++ more =
      sym (append_assoc toks (t ∷ []) more) in
      let come : From n more = rw k.is at (to_come [] e n bs) in
      let new : List Piece = section_at f.extent before word n0 ((toks ++ t ∷ []) ++ more) (end_token l k.rest) in
      let le : n ≤ covered 0 new =
      by_eof (f.extent before word ((toks ++ t ∷ []) ++ more)).at_eof
      _ _ (last_taken n0 n _ toks more t refl come (covers more)) in
      let one = cut-covered f.extent (before ++ new) (covered 0 new) (with_bytes l (held ++ k.bytes)) k.rest le in
      let two = cut-covered f.extent (before ++ new) (covered 0 new) l k.rest le in
      rw (k.is, s.split, all, one, two) refl
    where
      by_eof : (b : Bool) (m q : ℕ) → n ≤ m → n ≤ covered m (cond b (End q true ∷ []) [])
      by_eof true m q h = h
      by_eof false m q h = h

  -- a token at which the section stops
  pub in_section-stops : (k : TextKind) → StopsAt f before word n0 toks (whole held n) k →
      in_section f before word n0 toks held e n bs ≡ Some (Err (record { line = n; kind = k }))
  unfolding in_section goes new_pieces judge
  in_section-stops kind stops =
      let s = split_at held e n bs run gap in
      let k = s.first in
      rw (k.is, s.split, stops (tokens_of k.whole n k.bytes ++ tokens k.rest) _) refl

  -- an EOF that ends the section
  pub in_section-eof : EndsAtEof f before word n0 toks (whole held n)
      → in_section f before word n0 toks held e n bs ≡ ended f (before ++ a_section word n0 toks (Early n true)) n true
      (f.at_end (before ++ a_section word n0 toks (Early n true)))
  unfolding in_section goes new_pieces judge
  in_section-eof eof =
      let s = split_at held e n bs run gap in
      let k = s.first in
      let more : List Token = tokens_of k.whole n k.bytes ++ tokens k.rest in
      rw (
        k.is,
        s.split,
        eof.extent more,
        take_whole toks (token held n ∷ more),
        next_is toks (token held n) more _,
        eof.early,
      ) refl
    where
      next_is : (xs : List Token) (t : Token) (ys : List Token) (d : Token) → get_or (xs ++ t ∷ ys) (length xs) d ≡ t
      next_is [] t ys d = refl
      next_is (x ∷ xs) t ys d = next_is xs t ys d

-- ---- after a section's word

-- bytes of which the first is no blank and no colon
abbrev pub plain : Bool → List ℕ → Bool
plain e [] = e
plain e (b ∷ bs) = not (is_blank b) && not (eqb b 58)

abbrev pub StartsPlain : List ℕ → Type 0
StartsPlain [] = Unit {0}
StartsPlain (b ∷ bs) = (is_blank b ≡ false) × (eqb b 58 ≡ false)

pub plain_after : (tail x : List ℕ) → behind is_blank tail ≡ [] → StartsPlain x → after_word (tail ++ x) ≡ x
plain_after tail [] h p = ap without_colon_before (behind-all is_blank tail [] h)
plain_after tail (b ∷ x) h p = after_other tail b x h p.0 p.1

pub first_same : (e : Bool) (n : ℕ) (bs : List ℕ) (k j : First e n bs) →
    (k.bytes ≡ j.bytes) × (k.whole ≡ j.whole) × (k.rest ≡ j.rest)
first_same e n bs k j =
    let is = sym k.is ∙ j.is in
    let heads : with_bytes (record { number = n; bytes = k.bytes; whole = k.whole })
    k.bytes ≡ record { number = n; bytes = j.bytes; whole = j.whole } = cc in
    (ap (λ (l : Line). l.bytes) heads, ap (λ (l : Line). l.whole) heads, cc)

at_lf : (e : Bool) (n c : ℕ) (bs : List ℕ) → c ≡ LF → (k : First e n (c ∷ bs)) → k.bytes ≡ []
unfolding first-LF
at_lf e n c bs lf =
    subst (λ (d : ℕ). (k : First e n (d ∷ bs)) → k.bytes ≡ []) (sym lf)
    (λ k. (first_same e n (LF ∷ bs) k (first-LF e n bs)).0)

both_false : (s t : Bool) → (not s && not t) ≡ true → (s ≡ false) × (t ≡ false)
both_false s t h = let both = and_parts (not s) (not t) h in (not-true s both.0, not-true t both.1)

starts_by : (e : Bool) (n b : ℕ) (bs : List ℕ) (k : First e n (b ∷ bs)) (t : Bool) → eqb b LF ≡ t →
    plain e (b ∷ bs) ≡ true → StartsPlain k.bytes
unfolding first-byte
starts_by e n b bs k true is h = let none : k.bytes ≡ [] = at_lf e n b bs (eqb-true b LF is) k in rw none tt
starts_by e n b bs k false is h =
    rw (first_same e n (b ∷ bs) k (first-byte e n b bs is)).0 (both_false (is_blank b) (eqb b 58) h)

starts_plain : (e : Bool) (n : ℕ) (bs : List ℕ) (k : First e n bs) → plain e bs ≡ true → StartsPlain k.bytes
unfolding lines
starts_plain e n [] k h = let j : First e n [] = record { bytes = []; whole = e; rest = []; is = refl } in
    rw (first_same e n [] k j).0 tt
starts_plain e n (b ∷ bs) k h = starts_by e n b bs k (eqb b LF) refl h

module _ {V : Type 0} (f : Format V) (before : List Piece) (upto : ℕ) (held tail : List ℕ) (e : Bool) (n : ℕ)
    (bs : List ℕ) (lt : upto < n) (is_word : IsWord held) (ends : no_word e (tail ++ bs) ≡ true) (word : Keyword)
    (is : keyword_of held ≡ Some word) (begins : role word ≡ BeginsSection) where
  -- after a section's word, and what stands before its first token, the section's tokens begin
  pub from_line-tokens : (bs' : List ℕ) (j : First e n bs') → let k = (word_ends_behind tail e n bs ends).first in
      k.whole ≡ j.whole → k.rest ≡ j.rest → after_word (tail ++ k.bytes) ≡ j.bytes
      → from_line f before upto (held ++ tail) e n bs ≡ in_section f before word n [] [] e n bs'
  unfolding after_line new_at in_section goes new_pieces
  from_line-tokens bs' j same_whole same_rest after =
      let k = (word_ends_behind tail e n bs ends).first in
      let l : Line = record { number = n; bytes = j.bytes; whole = j.whole } in
      let toks : List Token = tokens_of j.whole n j.bytes ++ tokens j.rest in
      let new : List Piece = section_at f.extent before word n toks (end_token l j.rest) in
      let come : From n toks = rw j.is at (to_come [] e n bs') in
      let passed =
      cut-covered f.extent (before ++ new) (covered 0 new) l j.rest
      (reaches f.extent before word n toks (end_token l j.rest) come) in
      let left : from_line f before upto (held ++ tail) e n bs ≡ judge f before
      ((new ++ cut f.extent (before ++ new) (covered 0 new) j.rest) ++ ending (end_token l j.rest)) =
      from_line-word f before upto held tail e n bs lt is_word ends
      ∙ rw (is, begins, same_whole, same_rest, after, end_token-bytes l ((held ++ tail) ++ k.bytes) j.rest) refl in
      let right : in_section f before word n [] [] e n bs' ≡ judge f before
      ((new ++ cut f.extent (before ++ new) (covered 0 new) j.rest) ++ ending (end_token l j.rest)) =
      rw j.is (ap (λ (ps : List Piece). judge f before ((new ++ ps) ++ ending (end_token l j.rest))) passed) in
      left ∙ sym right

  pub from_line-inside : behind is_blank tail ≡ [] → plain e bs ≡ true →
      from_line f before upto (held ++ tail) e n bs ≡ in_section f before word n [] [] e n bs
  from_line-inside blank h =
      let k = (word_ends_behind tail e n bs ends).first in
      from_line-tokens bs k refl refl (plain_after tail k.bytes blank (starts_plain e n bs k h))

module _ {V : Type 0} (f : Format V) (before : List Piece) (upto : ℕ) (held tail : List ℕ) (e : Bool) (n : ℕ)
    (bs : List ℕ) (lt : upto < n) (is_word : IsWord held) (ends : no_word e (tail ++ 58 ∷ bs) ≡ true) (word : Keyword)
    (is : keyword_of held ≡ Some word) (begins : role word ≡ BeginsSection) where
  -- a colon after the word
  pub from_line-colon : behind is_blank tail ≡ [] →
      from_line f before upto (held ++ tail) e n (58 ∷ bs) ≡ in_section f before word n [] [] e n bs
  unfolding first-byte
  from_line-colon blank =
      let k = (word_ends_behind tail e n (58 ∷ bs) ends).first in
      let j = first_line e n bs in
      let same = first_same e n (58 ∷ bs) k (first-byte e n 58 bs refl) in
      from_line-tokens f before upto held tail e n (58 ∷ bs) lt is_word ends word is begins bs j same.1 same.2
      (ap (λ (x : List ℕ). after_word (tail ++ x)) same.0 ∙ after_colon tail j.bytes blank)

-- ---- after a section's last token

-- a token that begins with this byte
pub record Begins (b n : ℕ) (ts : List Token) : Type 0 where
  pub bytes : List ℕ
  pub whole : Bool
  pub rest : List Token
  pub is : ts ≡ record { bytes = b ∷ bytes; line = n; whole = whole } ∷ rest

pub first_token : (w : Bool) (n b : ℕ) (x : List ℕ) → is_blank b ≡ false → Begins b n (tokens_of w n (b ∷ x))
first_token w n b [] solid =
    record {
      bytes = [];
      whole = w || false;
      rest = [];
      is = tokens_of-end w n b [] solid refl
          ∙ rw (tokens_of-none w n) refl;
    }
first_token w n b (c ∷ x) solid = by_blank (is_blank c) refl (first_token w n c x)
  where
    by_blank : (t : Bool) → is_blank c ≡ t → (is_blank c ≡ false → Begins c n (tokens_of w n (c ∷ x))) →
        Begins b n (tokens_of w n (b ∷ c ∷ x))
    by_blank true h ih =
        record {
          bytes = [];
          whole = w || true;
          rest = tokens_of w n (c ∷ x);
          is = tokens_of-end w n b (c ∷ x) solid (ap not h);
        }
    by_blank false h ih = let u = ih h in
        record {
          bytes = c ∷ u.bytes;
          whole = u.whole;
          rest = u.rest;
          is = tokens_of-more w n b (c ∷ x) solid (ap not h)
              ∙ ap (onto_token b) u.is;
        }

-- a token that begins with these bytes
pub record Front (held : List ℕ) (n : ℕ) (ts : List Token) : Type 0 where
  pub bytes : List ℕ
  pub whole : Bool
  pub rest : List Token
  pub is : ts ≡ record { bytes = held ++ bytes; line = n; whole = whole } ∷ rest

pub front_token : (w : Bool) (n : ℕ) (held x : List ℕ) → IsUnbroken held → Front held n (tokens_of w n (held ++ x))
front_token w n [] x run = absurd run
front_token w n (b ∷ []) x run = let u = first_token w n b x run in
    record { bytes = u.bytes; whole = u.whole; rest = u.rest; is = u.is }
front_token w n (b ∷ c ∷ held) x run =
    let u = front_token w n (c ∷ held) x run.1 in
    record {
      bytes = u.bytes;
      whole = u.whole;
      rest = u.rest;
      is = tokens_of-more w n b (c ∷ held
          ++ x) run.0 (ap not (run_head c held run.1)) ∙ ap (onto_token b) u.is;
    }

module _ {V : Type 0} (f : Format V) (before : List Piece) (word : Keyword) (n0 : ℕ) (toks : List Token) (held : List ℕ)
    (e : Bool) (n : ℕ) (bs : List ℕ) (run : IsUnbroken held) where
  -- a token that is too long already
  pub in_section-long : 64 < length held
      → ((t : Token) (more : List Token) (after : After) → 64 < length t.bytes
      → f.section before word n0 (taken f before word (toks ++ t ∷ more)) after ≡ Some (Fault t.line kinds.TooLong))
      → in_section f before word n0 toks held e n bs ≡ Some (Err (record { line = n; kind = kinds.TooLong }))
  unfolding in_section goes new_pieces judge
  in_section-long long stops =
      let k = first_line e n bs in
      let u = front_token k.whole n held k.bytes run in
      let t : Token = record { bytes = held ++ u.bytes; line = n; whole = u.whole } in
      rw (k.is, u.is, stops t (u.rest ++ tokens k.rest) _ (omega (arith, long, length-append held u.bytes))) refl

pub get_behind : (xs ys : List Token) (d : Token) → get_or (xs ++ ys) (length xs) d ≡ get_or ys 0 d
get_behind [] ys d = refl
get_behind (x ∷ xs) ys d = get_behind xs ys d

module _ {V : Type 0} (f : Format V) (before : List Piece) (word : Keyword) (n0 : ℕ) (toks : List Token) (held : List ℕ)
    (e : Bool) (n : ℕ) (bs : List ℕ) (run : IsUnbroken held) where
  -- a token on the line of the section's last one
  pub in_section-another : last_line n0 toks ≡ n
      → ((line : ℕ) → f.section before word n0 toks (Trailing line) ≡ Some (Fault line kinds.TrailingData))
      → f.extent before word
      (toks ++ tokens (prepend held (lines e n bs))) ≡ record { count = length toks; closed = true; at_eof = false }
      → in_section f before word n0 toks held e n bs ≡ Some (Err (record { line = n; kind = kinds.TrailingData }))
  unfolding in_section goes new_pieces judge
  in_section-another last trailing extent =
      let k = first_line e n bs in
      let u = front_token k.whole n held k.bytes run in
      let t : Token = record { bytes = held ++ u.bytes; line = n; whole = u.whole } in
      let is : tokens (prepend held (lines e n bs)) ≡ t ∷ (u.rest ++ tokens k.rest) = rw (k.is, u.is) refl in
      let ext : f.extent before word
      (toks ++ t ∷ (u.rest ++ tokens k.rest)) ≡ record { count = length toks; closed = true; at_eof = false } =
      rw is at extent in
      let one : eqb n n ≡ true = eq-eqb n n refl in
      let full : is_empty (held ++ u.bytes) ≡ false = run_full held u.bytes run in
      rw (
        k.is,
        u.is,
        ext,
        take_whole toks (t ∷ (u.rest ++ tokens k.rest)),
        get_behind toks,
        last,
        one,
        full,
        trailing,
      ) refl
    where
      run_full : (xs ys : List ℕ) → IsUnbroken xs → is_empty (xs ++ ys) ≡ false
      run_full [] ys h = absurd h
      run_full (x ∷ xs) ys h = refl
