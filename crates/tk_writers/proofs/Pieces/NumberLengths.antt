-- How long a numeral is at most, and a text that is put together piece by piece.
use Rattle.std.proofs.Common.{ℕ, zero, suc, ◌+◌, ◌*◌, ◌/◌, ◌%◌, ◌≤◌, Bool, true, false, List, [], ◌∷◌, length, arith}
use Rattle.std.proofs.Common.{length-append}
use Rattle.std.specs.Prelude.{flat_map, decimal, ◌==◌, if◌then◌else◌}
use Rattle.std.specs.Fmt.{digits, digits_onto, digit_glyph}

-- no numeral of std has over 64 digits
length_digits_onto : (k base : ℕ) (upper : Bool) (n : ℕ) (acc : List ℕ) →
    length (digits_onto k base upper n acc) ≤ k + length acc
length_digits_onto zero base upper n acc = omega arith
length_digits_onto (suc k) base upper n acc =
    elim (n / base == 0) as (λ b. length (if b then digit_glyph upper (n % base) ∷ acc
    else digits_onto k base upper (n / base) (digit_glyph upper (n % base) ∷ acc)) ≤ suc k + length acc) [
      | true ↦ omega arith
      | false ↦ omega (arith, length_digits_onto k base upper (n / base) (digit_glyph upper (n % base) ∷ acc))
    ]

pub length_decimal : (n : ℕ) → length (decimal n) ≤ 64
unfolding digits
length_decimal n = omega (arith, length_digits_onto 64 10 false n [])

pub length_flat_map : {X : Type 0} (f : X → List ℕ) (most : ℕ) → ((x : X) → length (f x) ≤ most) → (xs : List X) →
    length (flat_map f xs) ≤ length xs * most
length_flat_map f most short [] = omega arith
length_flat_map f most short (x ∷ xs) =
    omega (arith, short x, length_flat_map f most short xs, length-append (f x) (flat_map f xs))
