-- Tokens that end no list.
use Rattle.std.proofs.Common.{◌≡◌, ℕ, suc, ◌<◌, ◌≤◌, Bool, true, false, cond, eqb, not, ◌&&◌, ◌||◌, List, [], ◌∷◌}
use Rattle.std.proofs.Common.{length, None, refl, arith}
use Rattle.tk_words.specs.Lex.{Token, integer}
use Rattle.tk_words.specs.Words.{keyword_of}
use Rattle.tk_words.specs.MinusOne.{is_ending}
use Rattle.tk_words.specs.Entry.{is_eof, without_colon}
use Rattle.tk_words.proofs.BoolLaws.{and_false}
use Rattle.tk_words.proofs.NoWord.{keyword_of-long}
use Rattle.tk_words.proofs.NumberLaws.MinusOne.{integer_long}

-- a token that is too long ends no list, and neither does one that may go on
pub long_goes : (t : Token) → 64 < length t.bytes → (is_ending t ≡ false) × ((t.whole && is_eof t.bytes) ≡ false)
long_goes t long =
    let none : integer t.bytes ≡ None = integer_long t.bytes (omega (arith, long)) in
    let no_word : keyword_of (without_colon t.bytes) ≡ None =
    keyword_of-long (without_colon t.bytes) (omega (arith, long, shorter t.bytes)) in
    (rw none (and_false t.whole), rw no_word (and_false t.whole))
  where
    shorter : (bs : List ℕ) → length bs ≤ suc (length (without_colon bs))
    shorter [] = omega arith
    shorter (b ∷ []) = by_test (eqb b 58)
      where
        by_test : (t : Bool) → 1 ≤ suc (length (cond t [] (b ∷ [])))
        by_test true = omega arith
        by_test false = omega arith
    shorter (b ∷ c ∷ bs) = omega (arith, shorter (c ∷ bs))

-- one more token of which is no -1, and whose bytes with one more are none
pub no_minus_one : (w m o : Bool) → m ≡ false → o ≡ false →
    ◌≡◌ {A = ℕ} (cond ((w && m) || (not w && (m || o))) 1 0) 0
no_minus_one true m o p q = rw p refl
no_minus_one false m o p q = rw (p, q) refl

pub open_goes : (t : Token) → t.whole ≡ false → (is_ending t ≡ false) × ((t.whole && is_eof t.bytes) ≡ false)
open_goes t h = (rw h refl, rw h refl)
