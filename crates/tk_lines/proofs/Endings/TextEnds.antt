-- What a text says where its bytes end.
use Rattle.std.proofs.Common.{◌≡◌, ℕ, ◌<◌, ◌≤◌, Bool, true, false, cond, leb, ltb, not, List, [], ◌∷◌, ◌++◌, length}
use Rattle.std.proofs.Common.{get_or, Option, Some, None, Result, refl, sym, ap, ◌∙◌, arith}
use Rattle.std.proofs.lemmas.List.{append-nil, get_or_past, length-append}
use Rattle.std.proofs.Math.Seq.{take-length}
use Rattle.std.proofs.lemmas.Bool.{lt-leb, le-ltb}
use Rattle.tk_words.specs.declared.keyword.Keyword.{Keyword}
use Rattle.tk_words.specs.declared.keyword.Role.TheVariants.{BeginsHeader}
use Rattle.tk_words.specs.declared.fault.TextFault.{TextFault}
use Rattle.tk_words.specs.Lex.{Token, lines, tokens_of, onto_token, is_word_byte, IsUnbroken}
use Rattle.tk_words.specs.Words.{keyword_of, role}
use Rattle.tk_lines.specs.Pieces.{Piece, Clean, Early, Format, last_line, cut, judge, stopped, ended, decided_by}
use Rattle.tk_lines.specs.Reader.FromMiddle.{from_line, in_section, goes, new_pieces}
use Rattle.tk_lines.specs.Reader.Handlers.{Goes, a_section}
use Rattle.tk_lines.specs.Reader.Places.{anything, IsWord, AtLine, AtToken, AtClose, AtAfter}
use Rattle.tk_words.proofs.BoolLaws.{and_false}
use Rattle.tk_lines.proofs.Sections.MiddleOfSection.{tokens_of-none, tokens_of-more, tokens_of-end, run_head}
use Rattle.tk_lines.proofs.Sections.SectionEnds.{First, alone_clean, alone_extent}
use Rattle.tk_lines.proofs.Headers.ByteRuns.{front-whole}
use Rattle.tk_lines.proofs.KnownWordLines.{from_line-word, word_ends_behind, after_line, new_at, blank_letter}
use Rattle.tk_lines.proofs.Sections.SectionBytes.{first_same}

pub get_end : (xs : List Token) (d : Token) → get_or xs (length xs) d ≡ d
get_end xs d = get_or_past xs (length xs) d (omega arith)

no_pieces : (t : Bool) → ◌≡◌ {A = List Piece} (cond t [] []) []
no_pieces true = refl
no_pieces false = refl

module _ {V : Type 0} (f : Format V) (before : List Piece) (e : Bool) (n : ℕ) where
  -- between lines
  pub from_line-end : (upto : ℕ) → upto < n → from_line f before upto [] e n [] ≡ ended f before n e (f.at_end before)
  unfolding from_line cut judge lines
  from_line-end upto lt = let later : leb n upto ≡ false = lt-leb _ _ lt in rw later refl

  -- in a section
  pub in_section-end : (word : Keyword) (n0 : ℕ) (toks : List Token)
      → f.extent before word toks ≡ record { count = length toks; closed = false; at_eof = false }
      → in_section f before word n0 toks [] e n [] ≡ stopped (f.section before word n0 toks (Early n e))
      (ended f (before ++ a_section word n0 toks (Early n e)) n e
      (f.at_end (before ++ a_section word n0 toks (Early n e))))
  unfolding in_section goes new_pieces cut judge lines
  in_section-end word n0 toks extent =
      rw (
        tokens_of-none e n,
        append-nil toks,
        extent,
        take-length toks,
        get_end toks,
        no_pieces (leb n (last_line n0 toks)),
      ) refl

  -- after a section
  pub in_section-shut : (word : Keyword) (n0 : ℕ) (toks : List Token)
      → f.extent before word (toks ++ []) ≡ record { count = length toks; closed = true; at_eof = false }
      → f.section before word n0 toks Clean ≡ None
      → in_section f before word n0 toks [] e n [] ≡ ended f (before ++ a_section word n0 toks Clean) n e
      (f.at_end (before ++ a_section word n0 toks Clean))
  unfolding in_section goes new_pieces cut judge lines
  in_section-shut word n0 toks extent clean =
      rw (
        tokens_of-none e n,
        extent,
        append-nil toks,
        take-length toks,
        get_end toks,
        and_false,
        clean,
        no_pieces (leb n (last_line n0 toks)),
      ) refl

-- ---- where more may follow, nothing is decided

pub tokens_of-open : (n : ℕ) (held : List ℕ) → IsUnbroken held →
    tokens_of false n held ≡ record { bytes = held; line = n; whole = false } ∷ []
tokens_of-open n [] h = absurd h
tokens_of-open n (b ∷ []) h = tokens_of-end false n b [] h refl
    ∙ ap (λ (ts : List Token). record { bytes = b ∷ []; line = n; whole = false } ∷ ts) (tokens_of-none false n)
tokens_of-open n (b ∷ d ∷ held) h = tokens_of-more false n b (d ∷ held) h.0 (ap not (run_head d held h.1))
    ∙ ap (onto_token b) (tokens_of-open n (d ∷ held) h.1)

module _ {V S : Type 0} (f : Format V) (form : S) (line : ℕ) (bs : List ℕ) where
  pub at_none : (x : Option (Result V TextFault)) → decided_by f false (bs ++ []) ≡ x → x ≡ None →
      decided_by f false bs ≡ None
  at_none x h k = ap (decided_by f false) (sym (append-nil bs)) ∙ h ∙ k

  pub open_start : (H : S → List Piece → Type 0) → AtLine f H anything form line [] bs → decided_by f false bs ≡ None
  open_start H a = at_none _ (a.same false [] refl) (from_line-end f a.before false line a.upto a.lt)

  open_word_law : (before : List Piece) (upto b : ℕ) (t : List ℕ) → upto < line → IsWord (b ∷ t) →
      from_line f before upto (b ∷ t) false line [] ≡ None
  unfolding from_line cut judge lines
  open_word_law before upto b t lt h =
      let later : leb line upto ≡ false = lt-leb _ _ lt in
      let short : ltb 64 (length (b ∷ t)) ≡ false = le-ltb _ _ h.2 in
      rw (append-nil (b ∷ t), later, blank_letter b h.0, front-whole is_word_byte (b ∷ t) h.1, h.1, short, h.0) refl

  pub open_word : (H : S → List Piece → Type 0) (held : List ℕ) → IsWord held → AtLine f H anything form line held bs →
      decided_by f false bs ≡ None
  open_word H [] h a = absurd h
  open_word H (b ∷ t) h a = at_none _ (a.same false [] refl) (open_word_law a.before a.upto b t a.lt h)

  pub open_gap : (W : S → List Piece → Keyword → ℕ → List Token → Type 0) → AtToken f W anything form line [] bs →
      decided_by f false bs ≡ None
  open_gap W a =
      at_none _ (a.same false [] refl) (in_section-end f a.before false line a.word a.first a.toks a.goes.ends
      ∙ rw (a.goes.early line) refl)

  open_token_law : (before : List Piece) (word : Keyword) (n0 : ℕ) (toks : List Token) (held : List ℕ) →
      IsUnbroken held →
      length held ≤ 64 → Goes f before word n0 toks → in_section f before word n0 toks held false line [] ≡ None
  unfolding in_section goes new_pieces cut judge lines
  open_token_law before word n0 toks held run short g =
      let t : Token = record { bytes = held; line = line; whole = false } in
      rw (append-nil held, tokens_of-open line held run, g.opens t _ refl short) refl

  pub open_token : (W : S → List Piece → Keyword → ℕ → List Token → Type 0) (held : List ℕ) → IsUnbroken held →
      length held ≤ 64 → AtToken f W anything form line held bs → decided_by f false bs ≡ None
  open_token W held run short a =
      at_none _ (a.same false [] refl) (open_token_law a.before a.word a.first a.toks held run short a.goes)

  pub open_close : (H : S → List Piece → Type 0) → AtClose f H anything form line bs → decided_by f false bs ≡ None
  open_close H a =
      at_none _ (a.same false [] refl)
      (in_section-shut f a.before false line a.word a.first a.toks (a.closed.extent []) a.closed.clean)

  pub open_after : (H : S → List Piece → Type 0) (o : Bool) → AtAfter f H anything form line o [] bs →
      decided_by f false bs ≡ None
  open_after H o a = at_none _ (a.same false [] refl) (in_section-shut f a.before false line a.word a.first a.toks
      (alone_extent a.ends [] refl) (alone_clean a.ends))

  -- in a header's value
  pub open_value_law : (before : List Piece) (upto : ℕ) (held : List ℕ) (d : ℕ) (ds : List ℕ) (word : Keyword)
      → upto < line → IsWord held → is_word_byte d ≡ false → keyword_of held ≡ Some word → role word ≡ BeginsHeader
      → length (d ∷ ds) ≤ 4096
      → from_line f before upto (held ++ d ∷ ds) false line [] ≡ None
  unfolding after_line new_at judge lines
  open_value_law before upto held d ds word lt h other is header short =
      let ends : not (is_word_byte d) ≡ true = ap not other in
      let k = (word_ends_behind (d ∷ ds) false line [] ends).first in
      let j : First false line [] = record { bytes = []; whole = false; rest = []; is = refl } in
      let same = first_same false line [] k j in
      let test : ltb 4096 (length ((d ∷ ds) ++ [])) ≡ false =
      le-ltb _ _ (omega (arith, short, length-append (d ∷ ds) [])) in
      from_line-word f before upto held (d ∷ ds) false line [] lt h ends
      ∙ rw (is, header, same.0, same.1, test) refl
