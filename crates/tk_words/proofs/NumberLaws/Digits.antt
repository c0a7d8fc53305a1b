-- Digits, zeros and powers of ten.
use Rattle.std.proofs.Common.{zero, of_z, ◌-ℤ◌, ℤ, neg_ℤ, leb, ◌&&◌, option_map, pos, to_z, w64, Ok, Err, eqb, Option}
use Rattle.std.proofs.Common.{Some, None, length-append, get_or, ◌≡◌, ℕ, suc, ◌+◌, ◌-◌, ◌*◌, ◌/◌, ◌^◌, ◌<◌, ◌≤◌, List}
use Rattle.std.proofs.Common.{[], ◌∷◌, ◌++◌, length, take, drop, min, true, All, arith, lit<, sym, ap, subst, ◌∙◌, refl}
use Rattle.std.proofs.Common.{length-drop, cond, Bool, false, inl, inr, Result}
use Rattle.std.proofs.Math.Nat.{one-le-pow, mul-le-mul_left, mul_assoc, pow-suc, mul-le-mul_right, pow-le-pow_right}
use Rattle.std.proofs.Math.Nat.{mul-div_cancel, div-eq_of_lt, div-div-eq-div-mul}
use Rattle.std.proofs.lemmas.Bool.{cases_lt, cond_both, cond-false, cond-true, le-leb, lt-leb}
use Rattle.std.proofs.lemmas.Bool.Decides.{nat_tests}
use Rattle.std.proofs.lemmas.List.{append-nil, take-append-drop, take-append-le, take_all, take_min}
use Rattle.std.proofs.Math.Seq.{take-append-add}
use Rattle.std.proofs.lemmas.List.Sums.{fold-append}
use Rattle.std.proofs.lemmas.List.Elements.{All-append, All-same, All-head, All-tail, All-cons, All-nil, All-drop}
use Rattle.std.proofs.lemmas.Nat.{pow-add, div-mul-add}
use Rattle.std.specs.Char.{IsAsciiDigit, is_ascii_digit}
use Rattle.tk_words.specs.Lex.{front, behind, is_empty}
use Rattle.tk_words.specs.declared.numbers.decimals.TheConstants.{POWERS_OF_TEN}
use Rattle.std.proofs.lemmas.List.FromFn.{get_or-map-range_with_len}
use Rattle.std.proofs.lemmas.Int.{to_z_pos, to_z-of_z, ints, fits_signed_from_abs}
use Rattle.std.specs.Int.RustNames.{unsigned_abs, FitsSigned}
use Rattle.tk_problem.specs.Places.{greatest_coordinate}
use Rattle.tk_words.specs.declared.fault.TextKind.{TextKind}
use Rattle.tk_words.specs.declared.fault.TextKind.TheVariants as kinds
use Rattle.tk_words.specs.Decimal.{decimal_of, limited, billionths, exponent, behind_fraction, fraction, number_behind}
use Rattle.tk_words.specs.Decimal.{number_of}

-- ---- what digits spell

number_behind-append : (n : ℕ) (ds es : List ℕ) → number_behind n (ds ++ es) ≡ number_behind (number_behind n ds) es
number_behind-append n ds es = fold-append (λ m d. m * 10 + (d - 48)) n ds es

pub number_behind-ge : (n : ℕ) (ds : List ℕ) → n ≤ number_behind n ds
number_behind-ge n [] = omega arith
number_behind-ge n (d ∷ ds) = omega (arith, number_behind-ge (n * 10 + (d - 48)) ds)

-- each front spells less
pub number_behind-take : (n i : ℕ) (ds : List ℕ) → number_behind n (take i ds) ≤ number_behind n ds
number_behind-take n i ds =
    omega (
      arith,
      ap (number_behind n) (take-append-drop i ds),
      number_behind-append n (take i ds) (drop i ds),
      number_behind-ge (number_behind n (take i ds)) (drop i ds),
    )

-- digits after a number move it up by their count
moved_up : (n d p q : ℕ) → (n * 10 + d) * p + q ≡ n * (p * 10) + ((0 * 10 + d) * p + q)
moved_up n d p q = omega arith

number_behind-split : (n : ℕ) (ds : List ℕ) → number_behind n ds ≡ n * 10 ^ length ds + number_of ds
number_behind-split n [] = omega arith
number_behind-split n (d ∷ ds) =
    rw (number_behind-split (n * 10 + (d - 48)) ds, number_behind-split (0 * 10 + (d - 48)) ds, pow-suc 10 (length ds))
    (moved_up n (d - 48) (10 ^ length ds) (number_of ds))

-- digits spell less than the power of ten of their count
room : (d p q : ℕ) → d ≤ 9 → q < p → (0 * 10 + d) * p + q < p * 10
room d p q digit less = omega (arith, mul-le-mul_right {m = d} {n = 9} p digit)

number_of-lt : (ds : List ℕ) → All IsAsciiDigit ds → number_of ds < 10 ^ length ds
number_of-lt [] digits = omega arith
number_of-lt (d ∷ ds) digits =
    let digit = All-head IsAsciiDigit d ds digits in
    rw (number_behind-split (0 * 10 + (d - 48)) ds, pow-suc 10 (length ds))
    (room (d - 48) (10 ^ length ds) (number_of ds) (omega arith)
    (number_of-lt ds (All-tail IsAsciiDigit d ds digits)))

-- ---- a number moved up by powers of ten and down by others is its first digits

abbrev first : List ℕ → ℕ → ℕ
first ds count = number_of (take count ds)

tens_pos : (k : ℕ) → 0 < 10 ^ k
tens_pos k = omega (arith, one-le-pow k 10 (lit< tt))

-- the last digits fall away
number_of-div : (ds : List ℕ) (r : ℕ) → All IsAsciiDigit ds → number_of ds / 10 ^ r ≡ first ds (length ds - r)
number_of-div ds r digits =
    let n : ℕ = length ds - r in
    let parts : number_of ds ≡ first ds n * 10 ^ length (drop n ds) + number_of (drop n ds) =
    ap number_of (sym (take-append-drop n ds)) ∙ number_behind-append 0 (take n ds) (drop n ds)
    ∙ number_behind-split (first ds n) (drop n ds) in
    let last = number_of-lt (drop n ds) (All-drop IsAsciiDigit n ds digits) in
    elim (cases_lt (length ds) r) as (λ _. number_of ds / 10 ^ r ≡ first ds n) [
      | inl less ↦
          let all = number_of-lt ds digits in
          let none : n ≡ 0 = omega arith in
          let below : number_of ds < 10 ^ r =
          omega (arith, pow-le-pow_right {n = 10} (lit< tt) {i = length ds} {j = r} (omega arith)) in
          div-eq_of_lt below ∙ ap (first ds) (sym none)
      | inr more ↦
          let size : length (drop n ds) ≡ r = length-drop n ds ∙ omega arith in
          rw (parts, size)
          (div-mul-add (first ds n) (10 ^ r) (number_of (drop n ds))
          (subst (λ k. number_of (drop n ds) < 10 ^ k) size last))
    ]

moved : (ds : List ℕ) (up down : ℕ) → All IsAsciiDigit ds →
    number_of ds * 10 ^ up / 10 ^ down ≡ first ds (length ds + up - down) * 10 ^ (up - down)
moved ds up down digits =
    elim (cases_lt up down) as (λ _. number_of ds * 10 ^ up / 10 ^ down ≡ first ds (length ds + up - down) * 10 ^
    (up - down)) [
      | inl less ↦
          let r : ℕ = down - up in
          let split : 10 ^ down ≡ 10 ^ up * 10 ^ r = ap (λ k. 10 ^ k) (omega arith) ∙ pow-add 10 up r in
          let cancel : number_of ds * 10 ^ up / 10 ^ down ≡ number_of ds / 10 ^ r =
          ap (λ d. number_of ds * 10 ^ up / d) split
          ∙ sym (div-div-eq-div-mul (number_of ds * 10 ^ up) (10 ^ up) (10 ^ r))
          ∙ ap (λ x. x / 10 ^ r) (mul-div_cancel (number_of ds) (tens_pos up)) in
          let count : length ds + up - down ≡ length ds - r = omega arith in
          let none : up - down ≡ 0 = omega arith in
          rw (cancel, count, none) (number_of-div ds r digits ∙ omega arith)
      | inr more ↦
          let z : ℕ = up - down in
          let split : 10 ^ up ≡ 10 ^ z * 10 ^ down = ap (λ k. 10 ^ k) (omega arith) ∙ pow-add 10 z down in
          let all : take (length ds + up - down) ds ≡ ds = take_all (length ds + up - down) ds (omega arith) in
          rw (all, split) (ap (λ x. x / 10 ^ down) (sym (mul_assoc (number_of ds) (10 ^ z) (10 ^ down)))
          ∙ mul-div_cancel (number_of ds * 10 ^ z) (tens_pos down))
    ]

-- ---- zeros after a number

pub many_zeros : (n zeros : ℕ) → 0 < n → 19 ≤ zeros → n * 10 ^ zeros ≤ 10 ^ 18 → ⊥
many_zeros n zeros some many low =
    omega (
      arith,
      low,
      pow-le-pow_right {n = 10} (lit< tt) {i = 19} {j = zeros} many,
      mul-le-mul_right {m = 1} {n = n} (10 ^ zeros) some,
    )

pub times_power : (n zeros : ℕ) → zeros < 19 → n * get_or POWERS_OF_TEN zeros 0 ≡ n * 10 ^ zeros
times_power n zeros few = ap (λ p. n * p) (get_or-map-range_with_len (λ k. 10 ^ k) 0 19 zeros zeros 0 few (omega arith))

pub moved-ge : (n zeros : ℕ) → n ≤ n * 10 ^ zeros
moved-ge n zeros = omega (arith, mul-le-mul_left {m = 1} {n = 10 ^ zeros} n (tens_pos zeros))

-- the first digits of two lists
take-two : (whole fraction : List ℕ) (count a b : ℕ) → a ≡ min count (length whole) →
    b ≡ min (count - a) (length fraction) → take count (whole ++ fraction) ≡ take a whole ++ take b fraction
take-two whole fraction count a b is_a is_b =
    elim (cases_lt count (length whole)) as (λ _. take count (whole ++ fraction) ≡ take a whole ++ take b fraction) [
      | inl less ↦
          let all : a ≡ count = omega arith in
          let none : b ≡ 0 = omega arith in
          take-append-le count whole fraction (omega arith) ∙ sym (append-nil (take count whole))
          ∙ ap (λ i. take i whole ++ []) (sym all) ∙ ap (λ i. take a whole ++ take i fraction) (sym none)
      | inr more ↦
          let rest : ℕ = count - length whole in
          let all : take a whole ≡ whole = take_all a whole (omega arith) in
          let some : b ≡ min rest (length fraction) = is_b ∙ ap (λ k. min k (length fraction)) (omega arith) in
          let split : count ≡ length whole + rest = omega arith in
          ap (λ i. take i (whole ++ fraction)) split ∙ take-append-add whole fraction rest
          ∙ ap (λ xs. whole ++ xs) (sym (take_min rest fraction)) ∙ ap (λ i. whole ++ take i fraction) (sym some)
          ∙ ap (λ xs. xs ++ take b fraction) (sym all)
    ]

pub first_of_two : (whole fraction : List ℕ) (count a b : ℕ) → a ≡ min count (length whole)
    → b ≡ min (count - a) (length fraction)
    → number_of (take count (whole ++ fraction)) * 10 ^ (count - length (whole ++ fraction)) ≡ number_behind
    (number_of (take a whole)) (take b fraction) * 10 ^ (count - a - b)
first_of_two whole fraction count a b is_a is_b =
    let zeros : count - length (whole ++ fraction) ≡ count - a - b = simp length-append (omega arith) in
    rw (take-two whole fraction count a b is_a is_b, zeros)
    (ap (λ n. n * 10 ^ (count - a - b)) (number_behind-append 0 (take a whole) (take b fraction)))

-- ---- the digits that bytes begin with

IsAsciiDigit-from_test : (b : ℕ) → is_ascii_digit b ≡ true → IsAsciiDigit b
IsAsciiDigit-from_test b e = grind (arith, nat_tests)

All-front : (bs : List ℕ) → All IsAsciiDigit (front is_ascii_digit bs)
All-front [] = All-nil IsAsciiDigit
All-front (b ∷ bs) =
    cond_both (is_ascii_digit b) (b ∷ front is_ascii_digit bs) [] (All IsAsciiDigit)
    (λ e. All-cons IsAsciiDigit b (front is_ascii_digit bs) (IsAsciiDigit-from_test b e) (All-front bs))
    (λ e. All-nil IsAsciiDigit)

All-fraction : (bs : List ℕ) → All IsAsciiDigit (fraction bs)
All-fraction [] = All-nil IsAsciiDigit
All-fraction (b ∷ bs) = cond_both (eqb b 46) (front is_ascii_digit bs) [] (All IsAsciiDigit) (λ e. All-front bs)
    (λ e. All-nil IsAsciiDigit)

pub All-digits : (bs ds : List ℕ) → ds ≡ front is_ascii_digit bs → All IsAsciiDigit ds
All-digits bs ds e = All-same IsAsciiDigit ds (front is_ascii_digit bs) e (All-front bs)

pub All-fraction_digits : (bs ds : List ℕ) → ds ≡ fraction bs → All IsAsciiDigit ds
All-fraction_digits bs ds e = All-same IsAsciiDigit ds (fraction bs) e (All-fraction bs)

-- what a number is worth, by its parts
not_both_empty : (xs ys : List ℕ) → 0 < length xs + length ys → (is_empty xs && is_empty ys) ≡ false
not_both_empty [] [] some = absurd (omega arith)
not_both_empty [] (y ∷ ys) some = refl
not_both_empty (x ∷ xs) ys some = refl

pub billionths_is : (bs whole rest digits last : List ℕ) (up down count : ℕ)
    → whole ≡ front is_ascii_digit bs → rest ≡ behind is_ascii_digit bs → digits ≡ fraction rest
    → last ≡ behind_fraction rest
    → 0 < length whole + length digits → Some (up, down) ≡ exponent last → count ≡ length whole + 9 + up - down
    → billionths bs ≡ Some (number_of (take count (whole ++ digits)) * 10 ^ (count - length (whole ++ digits)))
billionths_is bs whole rest digits last up down count is_whole is_rest is_digits is_last some power is_count =
    let all : All IsAsciiDigit (whole ++ digits) =
    All-append IsAsciiDigit whole digits (All-digits bs whole is_whole)
    (All-fraction_digits rest digits is_digits) in
    let kept : length (whole ++ digits) + (9 + up) - (length digits + down) ≡ count =
    simp length-append (omega arith) in
    let zeros : 9 + up - (length digits + down) ≡ count - length (whole ++ digits) = simp length-append (omega arith) in
    let value = moved (whole ++ digits) (9 + up) (length digits + down) all in
    rw (← is_whole, ← is_rest, ← is_digits, ← is_last, ← power, not_both_empty whole digits some)
    (ap Some (rw (← zeros, ← kept) value))

-- the limit
pub limited-low : (o : Option ℕ) (n v : ℕ) → o ≡ Some v → v ≤ greatest_coordinate → n ≡ v →
    limited (option_map pos o) ≡ Ok (to_z w64 n)
limited-low o n v e low same =
    ap (λ x. limited (option_map pos x)) e ∙ cond-true _ _ _ (le-leb _ _ low)
    ∙ ap Ok (sym (to_z_pos w64 n (omega arith) ∙ ap pos same))

pub limited-high : (o : Option ℕ) (v : ℕ) → o ≡ Some v → (v ≤ greatest_coordinate → ⊥) →
    limited (option_map pos o) ≡ Err kinds.OutOfLimit
limited-high o v e high = ap (λ x. limited (option_map pos x)) e
    ∙ cond-false _ _ _ (lt-leb v greatest_coordinate (omega (arith, high)))

-- ---- a minus sign

abs-minus : (n : ℕ) → unsigned_abs (neg_ℤ (pos n)) ≡ n
abs-minus zero = refl
abs-minus (suc n) = refl

-- the negative of a number, or the same fault
abbrev pub negative : Result ℤ TextKind → Result ℤ TextKind
negative (Ok z) = Ok (neg_ℤ z)
negative (Err kind) = Err kind

limited-minus : (o : Option ℕ) → limited (option_map (λ n. neg_ℤ (pos n)) o) ≡ negative (limited (option_map pos o))
limited-minus None = refl
limited-minus (Some n) = rw (abs-minus n) (by_test (leb n greatest_coordinate))
  where
    by_test : (t : Bool) → cond t (Ok (neg_ℤ (pos n))) (Err kinds.OutOfLimit) ≡ negative
        (cond t (Ok (pos n)) (Err kinds.OutOfLimit))
    by_test true = refl
    by_test false = refl

decimal_of-minus : (bs : List ℕ) → 0 < length bs → get_or bs 0 0 ≡ 45 →
    decimal_of bs ≡ option_map (λ n. neg_ℤ (pos n)) (billionths (take (length bs - 1) (drop 1 bs)))
decimal_of-minus [] some minus = absurd (omega arith)
decimal_of-minus (b ∷ bs) some minus =
    let test : eqb b 45 ≡ true = grind (arith, nat_tests) in
    let all : take (suc (length bs) - 1) bs ≡ bs = take_all (suc (length bs) - 1) bs (omega arith) in
    rw (test, all) refl

pub decimal-minus : (bs : List ℕ) (r : Result ℤ TextKind) → 0 < length bs → get_or bs 0 0 ≡ 45 →
    r ≡ limited (option_map pos (billionths (take (length bs - 1) (drop 1 bs)))) → limited (decimal_of bs) ≡ negative r
decimal-minus bs r some minus e = ap limited (decimal_of-minus bs some minus)
    ∙ limited-minus (billionths (take (length bs - 1) (drop 1 bs))) ∙ ap negative (sym e)

-- what the code's negation gives
pub negated : (z : ℤ) → unsigned_abs z ≤ greatest_coordinate →
    to_z w64 (of_z w64 (pos 0 -ℤ to_z w64 (of_z w64 z))) ≡ neg_ℤ z
negated z small =
    let fits : FitsSigned w64 z = fits_signed_from_abs w64 z (omega arith) in
    let same : pos 0 -ℤ to_z w64 (of_z w64 z) ≡ neg_ℤ z =
    ap (λ x. pos 0 -ℤ x) (to_z-of_z w64 z fits) ∙ omega (arith, ints) in
    let fits_minus : FitsSigned w64 (neg_ℤ z) = omega (arith, ints) in
    ap (λ x. to_z w64 (of_z w64 x)) same ∙ to_z-of_z w64 (neg_ℤ z) fits_minus
