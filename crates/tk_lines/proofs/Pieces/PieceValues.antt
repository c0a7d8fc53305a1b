-- The values of headers and the tokens of sections among pieces, with one piece more.
use Rattle.std.proofs.Common.{◌≡◌, ℕ, Bool, true, false, ◌||◌, List, [], ◌∷◌, ◌++◌, Some, None, refl, sym, ap, ◌∙◌}
use Rattle.std.proofs.Math.Bool.{or-false}
use Rattle.std.proofs.lemmas.List.{append-nil}
use Rattle.tk_words.specs.declared.keyword.Keyword.{Keyword}
use Rattle.tk_words.specs.Lex.{Token}
use Rattle.tk_words.specs.Words.{same_word}
use Rattle.tk_lines.specs.Pieces.{Piece, Header, Section, After, has, value_of, tokens_in}
use Rattle.tk_lines.specs.Reader.Handlers.{a_header, a_section}
use Rattle.tk_lines.proofs.Pieces.PieceLookups.{has-append, either_false, tokens_in-kept}

pub has-header : (w word : Keyword) (ps : List Piece) (v : List ℕ) (n : ℕ) →
    has w (ps ++ a_header word v n) ≡ (has w ps || same_word word w)
has-header w word ps v n = has-append w ps (a_header word v n)
    ∙ ap (λ (t : Bool). has w ps || t) (or-false (same_word word w))

pub has-section : (w word : Keyword) (ps : List Piece) (n : ℕ) (toks : List Token) (after : After) →
    has w (ps ++ a_section word n toks after) ≡ (has w ps || same_word word w)
has-section w word ps n toks after = has-append w ps (a_section word n toks after)
    ∙ ap (λ (t : Bool). has w ps || t) (or-false (same_word word w))

-- ---- the value of a header

pub value_of-unseen : (w : Keyword) (ps qs : List Piece) → has w ps ≡ false → value_of w (ps ++ qs) ≡ value_of w qs
value_of-unseen w [] qs h = refl
value_of-unseen w (Header v x ∷ ps) qs h =
    rw (either_false (same_word v w) (has w ps) h).0
    (value_of-unseen w ps qs (either_false (same_word v w) (has w ps) h).1)
value_of-unseen w (Section v n toks after ∷ ps) qs h =
    value_of-unseen w ps qs (either_false (same_word v w) (has w ps) h).1
value_of-unseen w (_ ∷ ps) qs h = value_of-unseen w ps qs h

pub value_of-append : (w : Keyword) (ps qs : List Piece) → value_of w qs ≡ None → value_of w (ps ++ qs) ≡ value_of w ps
value_of-append w [] qs h = h
value_of-append w (Header v x ∷ ps) qs h = rw (value_of-append w ps qs h) refl
value_of-append w (_ ∷ ps) qs h = value_of-append w ps qs h

pub value_of-other : (w word : Keyword) (ps : List Piece) (v : List ℕ) (n : ℕ) → same_word word w ≡ false →
    value_of w (ps ++ a_header word v n) ≡ value_of w ps
value_of-other w word ps v n other = value_of-append w ps (a_header word v n) (rw other refl)

pub value_of-section : (w word : Keyword) (ps : List Piece) (n : ℕ) (toks : List Token) (after : After) →
    value_of w (ps ++ a_section word n toks after) ≡ value_of w ps
value_of-section w word ps n toks after = value_of-append w ps (a_section word n toks after) refl

pub value_of-new : (w word : Keyword) (ps : List Piece) (v : List ℕ) (n : ℕ) → same_word word w ≡ true →
    has w ps ≡ false → value_of w (ps ++ a_header word v n) ≡ Some v
value_of-new w word ps v n same unseen = value_of-unseen w ps (a_header word v n) unseen ∙ rw same refl

pub value_of-none : (w : Keyword) (ps : List Piece) → has w ps ≡ false → value_of w ps ≡ None
value_of-none w ps h = ap (value_of w) (sym (append-nil ps)) ∙ value_of-unseen w ps [] h

-- ---- the tokens of a section

pub tokens_in-append : (w : Keyword) (ps qs : List Piece) → tokens_in w qs ≡ [] →
    tokens_in w (ps ++ qs) ≡ tokens_in w ps
tokens_in-append w ps qs h = tokens_in-kept w ps qs h
