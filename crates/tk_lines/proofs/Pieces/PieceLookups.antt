-- Looking up words among pieces, and one piece more.
use Rattle.std.proofs.Common.{◌≡◌, ℕ, Bool, true, false, ◌||◌, List, [], ◌∷◌, ◌++◌, refl, sym, ap, ◌∙◌}
use Rattle.std.proofs.Math.Bool.{or_assoc, or-false}
use Rattle.std.proofs.lemmas.List.{append-nil}
use Rattle.tk_words.specs.declared.keyword.Keyword.{Keyword}
use Rattle.tk_words.specs.Words.{same_word}
use Rattle.tk_lines.specs.Pieces.{Piece, Header, Section, has, tokens_in}
use Rattle.tk_lines.specs.Reader.Handlers.{a_header}
use Rattle.tk_words.proofs.BoolLaws.{or_true}

pub has-append : (w : Keyword) (xs ys : List Piece) → has w (xs ++ ys) ≡ (has w xs || has w ys)
has-append w [] ys = refl
has-append w (Header word v ∷ xs) ys = ap (λ (t : Bool). same_word word w || t) (has-append w xs ys)
    ∙ sym (or_assoc (same_word word w) (has w xs) (has w ys))
has-append w (Section word n toks after ∷ xs) ys = ap (λ (t : Bool). same_word word w || t) (has-append w xs ys)
    ∙ sym (or_assoc (same_word word w) (has w xs) (has w ys))
has-append w (_ ∷ xs) ys = has-append w xs ys

-- a word that is none of the new pieces'
pub has-kept : (w : Keyword) (xs ys : List Piece) → has w ys ≡ false → has w (xs ++ ys) ≡ has w xs
has-kept w xs ys h = has-append w xs ys ∙ ap (λ (t : Bool). has w xs || t) h ∙ or-false (has w xs)

pub has-new : (w : Keyword) (xs ys : List Piece) → has w ys ≡ true → has w (xs ++ ys) ≡ true
has-new w xs ys h = has-append w xs ys ∙ ap (λ (t : Bool). has w xs || t) h ∙ or_true (has w xs)

pub either_false : (s t : Bool) → (s || t) ≡ false → (s ≡ false) × (t ≡ false)
either_false true t h = absurd cc
either_false false t h = (refl, h)

-- the tokens of the first section of a word
pub tokens_in-new : (w : Keyword) (xs ys : List Piece) → has w xs ≡ false → tokens_in w (xs ++ ys) ≡ tokens_in w ys
tokens_in-new w [] ys h = refl
tokens_in-new w (Header word v ∷ xs) ys h = tokens_in-new w xs ys (either_false (same_word word w) (has w xs) h).1
tokens_in-new w (Section word n toks after ∷ xs) ys h =
    let none = either_false (same_word word w) (has w xs) h in
    rw none.0 (tokens_in-new w xs ys none.1)
tokens_in-new w (_ ∷ xs) ys h = tokens_in-new w xs ys h

-- no tokens more of a word that others follow
pub tokens_in-kept : (w : Keyword) (xs ys : List Piece) → tokens_in w ys ≡ [] → tokens_in w (xs ++ ys) ≡ tokens_in w xs
tokens_in-kept w [] ys h = h
tokens_in-kept w (Section word n toks after ∷ xs) ys h = rw (tokens_in-kept w xs ys h) refl
tokens_in-kept w (_ ∷ xs) ys h = tokens_in-kept w xs ys h

pub tokens_in-header : (w : Keyword) (xs : List Piece) (word : Keyword) (v : List ℕ) (n : ℕ) →
    tokens_in w (xs ++ a_header word v n) ≡ tokens_in w xs
tokens_in-header w xs word v n = tokens_in-kept w xs (a_header word v n) refl

pub tokens_in-none : (w : Keyword) (xs : List Piece) → has w xs ≡ false → tokens_in w xs ≡ []
tokens_in-none w xs h = ap (tokens_in w) (sym (append-nil xs)) ∙ tokens_in-new w xs [] h
