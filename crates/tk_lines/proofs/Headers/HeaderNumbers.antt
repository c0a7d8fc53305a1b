-- What is kept of a header's value tells its number and its word.
use Rattle.std.proofs.Common.{◌≡◌, ℕ, zero, suc, ◌<◌, Bool, true, false, eqb, leb, ◌&&◌, List, [], ◌∷◌, length, take}
use Rattle.std.proofs.Common.{Option, Some, None, ℤ, refl, sym, ap, ◌∙◌, arith}
use Rattle.std.specs.Char.{to_ascii_uppercase}
use Rattle.std.proofs.lemmas.List.{take_all, length-take-le}
use Rattle.std.proofs.lemmas.Bool.{leb-true, leb-false, le-leb}
use Rattle.tk_words.specs.declared.fault.TextKind.TheVariants as kinds
use Rattle.tk_lines.specs.declared.value_scanner.ValueScanner.{ValueScanner}
use Rattle.tk_lines.specs.Reader.ValueScanner.{Scans}
use Rattle.tk_lines.specs.HeaderValue.{first_word}
use Rattle.tk_words.specs.Lex.{integer}
use Rattle.tk_words.specs.Words.{spells}
use Rattle.tk_lines.specs.Pieces.{first_at, Fault}
use Rattle.tk_words.specs.Entry.{in_range, number_tests, IsNumber}
use Rattle.tk_words.proofs.NumberLaws.MinusOne.{integer_long}

pub spells-take : (k : ℕ) (w text : List ℕ) → length text < k → spells (take k w) text ≡ spells w text
spells-take zero w text h = absurd (omega arith)
spells-take (suc k) [] text h = refl
spells-take (suc k) (b ∷ w) [] h = refl
spells-take (suc k) (b ∷ w) (c ∷ text) h =
    ap (λ (t : Bool). eqb (to_ascii_uppercase b) c && t) (spells-take k w text (omega arith))

pub integer-take : (w : List ℕ) → integer (take 64 w) ≡ integer w
integer-take w = by_length (leb (length w) 64) refl
  where
    by_length : (t : Bool) → leb (length w) 64 ≡ t → integer (take 64 w) ≡ integer w
    by_length true p = ap integer (take_all 64 w (leb-true _ _ p))
    by_length false p =
        let long : 64 < length w = leb-false _ _ p in
        integer_long (take 64 w) (omega (arith, length-take-le 64 w (omega (arith, long))))
        ∙ sym (integer_long w (omega (arith, long)))

module _ (s : ValueScanner) (v : List ℕ) (scans : Scans s v) where
  pub value_integer : (bs : List ℕ) (o : Option ℤ) → o ≡ integer bs → bs ≡ s.first → integer (first_word v) ≡ o
  value_integer bs o is held = sym (is ∙ ap integer (held ∙ scans.first) ∙ integer-take (first_word v))

  pub value_spells : (bs text : List ℕ) → length text < 64 → bs ≡ s.first → spells bs text ≡ spells (first_word v) text
  value_spells bs text short held = ap (λ (x : List ℕ). spells x text) (held ∙ scans.first)
      ∙ spells-take 64 (first_word v) text short

pub tests_bad : (low high line : ℕ) (bs : List ℕ) → integer bs ≡ None →
    first_at line (number_tests low high bs) ≡ Some (Fault line kinds.BadNumber)
tests_bad low high line bs h = rw h refl

pub tests_out : (low high line : ℕ) (bs : List ℕ) (z : ℤ) → integer bs ≡ Some z → in_range low high (Some z) ≡ false →
    first_at line (number_tests low high bs) ≡ Some (Fault line kinds.OutOfLimit)
tests_out low high line bs z h out = rw (h, out) refl

pub tests_fine : (low high line : ℕ) (bs : List ℕ) (n : ℕ) → IsNumber low high bs n →
    first_at line (number_tests low high bs) ≡ None
tests_fine low high line bs n h = let a : leb low n ≡ true = le-leb _ _ h.above in
    let b : leb n high ≡ true = le-leb _ _ h.below in rw (h.is, a, b) refl
