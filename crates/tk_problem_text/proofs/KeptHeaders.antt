-- The headers that are kept, with one piece more.
use Rattle.std.proofs.Common.{◌≡◌, ℕ, Bool, true, false, List, [], ◌∷◌, ◌++◌, Option, Some, None, is_some, length}
use Rattle.std.proofs.Common.{ltb, refl, sym, ap, ◌∙◌}
use Rattle.std.specs.Prelude.{option_and_then, is_none, Result, Ok, Err, IfOk, IfErr, ◌≤◌}
use Rattle.std.specs.Option.{ok_or}
use Rattle.std.proofs.lemmas.Bool.{le-leb, le-ltb}
use Rattle.tk_words.specs.declared.keyword.Keyword.{Keyword}
use Rattle.tk_words.specs.Lex.{Token, trim, after_word}
use Rattle.tk_words.specs.Words.{same_word}
use Rattle.tk_lines.specs.Pieces.{Piece, After, has, value_of, tokens_in, first_at, Fault}
use Rattle.tk_lines.specs.Reader.Handlers.{a_header, a_section, IsReportedWord}
use Rattle.tk_problem_text.specs.Reader.Kept.{KeepsHeader, ValueSays}
use Rattle.tk_words.specs.declared.fault.TextKind.{TextKind}
use Rattle.tk_words.specs.declared.fault.TextKind.TheVariants as kinds
use Rattle.tk_lines.specs.HeaderValue.{first_word}
use Rattle.tk_words.specs.Entry.{number_tests, IsNumber}
use Rattle.tk_problem_text.specs.HeaderValues.{header_number}
use Rattle.tk_lines.proofs.Pieces.PieceLookups.{tokens_in-header}
use Rattle.tk_lines.proofs.Pieces.PieceValues.{has-header, has-section, value_of-other, value_of-section, value_of-new}
use Rattle.tk_lines.proofs.Pieces.PieceValues.{tokens_in-append}
use Rattle.tk_words.proofs.BoolLaws.{or_true}
use Rattle.std.proofs.Math.Bool.{or-false}

-- pieces with one of a word more say the same of each other word
pub record OneMore (w : Keyword) (ps qs : List Piece) : Type 0 where
  pub has_same : (word : Keyword) → same_word w word ≡ false → has word qs ≡ has word ps
  pub value_same : (word : Keyword) → same_word w word ≡ false → value_of word qs ≡ value_of word ps
  pub tokens_same : (word : Keyword) → same_word w word ≡ false → tokens_in word qs ≡ tokens_in word ps

pub one_header : (w : Keyword) (ps : List Piece) (v : List ℕ) (n : ℕ) → OneMore w ps (ps ++ a_header w v n)
one_header w ps v n = record {
  has_same = λ word other. has-header word w ps v n ∙ rw other (or-false (has word ps));
  value_same = λ word other. value_of-other word w ps v n other;
  tokens_same = λ word other. tokens_in-header word ps w v n;
}

pub one_section : (w : Keyword) (ps : List Piece) (n : ℕ) (toks : List Token) (after : After) →
    OneMore w ps (ps ++ a_section w n toks after)
one_section w ps n toks after = record {
  has_same = λ word other. has-section word w ps n toks after ∙ rw other (or-false (has word ps));
  value_same = λ word other. value_of-section word w ps n toks after;
  tokens_same = λ word other. tokens_in-append word ps (a_section w n toks after) (rw other refl);
}

-- what is kept of a word, after a piece of the word w: it stays where w is another word, or it comes
pub data Next {A : Type 0} (w word : Keyword) (Is : A → Type 0) (old : A) : A → Type 0 where
  stays : same_word w word ≡ false → Next w word Is old old
  comes : {new : A} → Is new → Next w word Is old new

pub next_is : {A : Type 0} {w word : Keyword} {Is : A → Type 0} {old new : A} → Next w word Is old new →
    (same_word w word ≡ false → Is old) → Is new
next_is (stays other) h = h other
next_is (comes is) h = is

pub keeps_next : {A : Type 0} {w word : Keyword} {f : List ℕ → Option A} {old new : Option A} {ps qs : List Piece} →
    OneMore w ps qs → KeepsHeader word f old ps → Next w word (λ x. KeepsHeader word f x qs) old new →
    KeepsHeader word f new qs
keeps_next {word = word} {f = f} more h next = next_is next (λ other. record {
  came = more.has_same word other ∙ h.came;
  says = ap (option_and_then f) (more.value_same word other) ∙ h.says;
})

pub notes_next : {w : Keyword} (word : Keyword) {old new : Bool} {ps qs : List Piece} → OneMore w ps qs →
    old ≡ has word ps → Next w word (λ x. x ≡ has word qs) old new → new ≡ has word qs
notes_next word more h next = next_is next (λ other. h ∙ sym (more.has_same word other))

-- the header comes for the first time
pub keeps_fresh : {A : Type 0} (w : Keyword) (f : List ℕ → Option A) (kept : Option A) (a : A) (ps : List Piece)
    (v : List ℕ) (n : ℕ)
    → is_some kept ≡ false → same_word w w ≡ true → KeepsHeader w f kept ps → f v ≡ Some a →
    KeepsHeader w f (Some a) (ps ++ a_header w v n) × (has w ps ≡ false)
keeps_fresh w f None a ps v n fresh same h is = (
  record {
    came = has-header w w ps v n ∙ rw (same, h.came) refl;
    says = ap (option_and_then f) (value_of-new w w ps v n same h.came) ∙ is;
  },
  h.came,
)
keeps_fresh w f (Some b) a ps v n fresh same h is = absurd cc

pub noted : (w : Keyword) (ps : List Piece) (v : List ℕ) (n : ℕ) → same_word w w ≡ true →
    true ≡ has w (ps ++ a_header w v n)
noted w ps v n same = sym (has-header w w ps v n ∙ rw same (or_true (has w ps)))

-- ---- what a value says

-- a word that is known or not
pub says_known : {A : Type 0} (f : List ℕ → Option A) (v : List ℕ) (o : Option A) (said : Result A TextKind) → o ≡ f v →
    said ≡ ok_or o kinds.Unsupported → ValueSays f ((is_none (f v), kinds.Unsupported) ∷ []) v said
says_known f v None said e is = rw is (record { ok = tt; err = λ n. rw (sym e) refl })
says_known f v (Some a) said e is = rw is (record { ok = (sym e, λ n. rw (sym e) refl); err = tt })

reported_all : (P : ℕ → TextKind → Type 0) (k : TextKind) → ((n : ℕ) → IsReportedWord (P n) k) →
    IsReportedWord (λ x. (n : ℕ) → P n x) k
reported_all P kinds.Read h = h 0
reported_all P kinds.NoMemory h = tt
reported_all P _ h = h

-- a number within limits
pub says_number : (low high : ℕ) (v : List ℕ) (said : Result ℕ TextKind)
    → IfOk said (λ n. IsNumber low high (first_word v) n)
    → ((n : ℕ) → IfErr said (IsReportedWord (λ k. first_at n (number_tests low high (first_word v)) ≡ Some
    (Fault n k))))
    → ValueSays (header_number low high) (number_tests low high (first_word v)) v said
says_number low high v (Ok a) h k =
    record {
      ok = (
        rw (h.is, le-leb _ _ h.above, le-leb _ _ h.below) refl,
        λ n. rw (h.is, le-leb _ _ h.above, le-leb _ _ h.below) refl,
      );
      err = tt;
    }
says_number low high v (Err kind) h k =
    record {
      ok = tt;
      err = reported_all (λ n x. first_at n (number_tests low high (first_word v)) ≡ Some
          (Fault n x)) kind k;
    }

-- a name that is not too long
pub short : (v xs : List ℕ) → xs ≡ trim (after_word v) → length xs ≤ 1024 →
    ltb 1024 (length (trim (after_word v))) ≡ false
short v xs is le = ap (λ (ys : List ℕ). ltb 1024 (length ys)) (sym is) ∙ le-ltb _ _ le
