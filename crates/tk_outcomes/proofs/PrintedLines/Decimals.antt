-- Decimal places, one after another.
use Rattle.std.proofs.Common.{◌≡◌, ℕ, zero, suc, ◌-◌, ◌*◌, ◌/◌, ◌%◌, ◌^◌, ◌<◌, ◌≤◌, true, false, List, [], ◌++◌}
use Rattle.std.proofs.Common.{refl, arith, ap, ◌∙◌, length, length-append}
use Rattle.std.proofs.lemmas.Bool.{eqb-true}
use Rattle.std.specs.Prelude.{codes, decimal, ◌==◌, if◌then◌else◌}
use Rattle.tk_writers.proofs.Pieces.NumberLengths.{length_decimal}
use Rattle.tk_outcomes.specs.Lines.InfoLines.{fraction_digits, fraction_text}

-- a fraction of 0 has no digits
pub digits_none : (places : ℕ) → fraction_digits places 0 ≡ []
unfolding fraction_digits
digits_none zero = refl
digits_none (suc k) = refl

next_digit : (k rest : ℕ) → 0 < rest →
    fraction_digits (suc k) rest ≡ decimal (rest / 10 ^ k) ++ fraction_digits k (rest % 10 ^ k)
unfolding fraction_digits
next_digit k rest more =
    let others : List ℕ = decimal (rest / 10 ^ k) ++ fraction_digits k (rest % 10 ^ k) in
    elim (rest == 0) as (λ b. (rest == 0) ≡ b → (if b then [] else others) ≡ others) [
      | true ↦ λ e. absurd (omega (arith, more, eqb-true rest 0 e))
      | false ↦ λ e. refl
    ] refl

-- the first digit, and the others
pub digits_next : (places rest : ℕ) → 0 < places → 0 < rest → fraction_digits places rest
    ≡ decimal (rest / 10 ^ (places - 1)) ++ fraction_digits (places - 1) (rest % 10 ^ (places - 1))
digits_next places rest some more =
    let is : places ≡ suc (places - 1) = omega (arith, some) in
    ap (λ p. fraction_digits p rest) is ∙ next_digit (places - 1) rest more

pub fraction_some : (fraction : ℕ) → 0 < fraction → codes "." ++ fraction_digits 9 fraction ≡ fraction_text fraction
fraction_some fraction some =
    let text : List ℕ = codes "." ++ fraction_digits 9 fraction in
    elim (fraction == 0) as (λ b. (fraction == 0) ≡ b → text ≡ (if b then [] else text)) [
      | true ↦ λ e. absurd (omega (arith, some, eqb-true fraction 0 e))
      | false ↦ λ e. refl
    ] refl

-- 10^8 fits in 64 bits
pub power_small : (k : ℕ) → k < 9 → (0 < 10 ^ k) × (10 ^ k < 2 ^ 64)
power_small zero few = (omega arith, omega arith)
power_small (suc zero) few = (omega arith, omega arith)
power_small (suc (suc zero)) few = (omega arith, omega arith)
power_small (suc (suc (suc zero))) few = (omega arith, omega arith)
power_small (suc (suc (suc (suc zero)))) few = (omega arith, omega arith)
power_small (suc (suc (suc (suc (suc zero))))) few = (omega arith, omega arith)
power_small (suc (suc (suc (suc (suc (suc zero)))))) few = (omega arith, omega arith)
power_small (suc (suc (suc (suc (suc (suc (suc zero))))))) few = (omega arith, omega arith)
power_small (suc (suc (suc (suc (suc (suc (suc (suc zero)))))))) few = (omega arith, omega arith)
power_small (suc (suc (suc (suc (suc (suc (suc (suc (suc k))))))))) few = absurd (omega (arith, few))

pub digits_short : (places fraction : ℕ) → length (fraction_digits places fraction) ≤ places * 64
unfolding fraction_digits
digits_short zero fraction = omega arith
digits_short (suc k) fraction =
    let first = length_decimal (fraction / 10 ^ k) in
    let others = digits_short k (fraction % 10 ^ k) in
    let both = length-append (decimal (fraction / 10 ^ k)) (fraction_digits k (fraction % 10 ^ k)) in
    elim (fraction == 0) as (λ b. length (if b then [] else decimal (fraction / 10 ^ k)
    ++ fraction_digits k (fraction % 10 ^ k)) ≤ suc k * 64) [
      | true ↦ omega arith
      | false ↦ omega (arith, first, others, both)
    ]
