-- What the digits of a whole number spell.
use Rattle.std.proofs.Common.{◌≡◌, ℕ, ◌+◌, ◌-◌, ◌*◌, ◌^◌, ◌<◌, ◌≤◌, List, [], ◌∷◌, ◌++◌, length, take, true}
use Rattle.std.proofs.Common.{false}
use Rattle.std.proofs.Common.{◌||◌, ◌==◌, All, Some, Ok, Err, pos, eqb, arith, ap, sym, ◌∙◌, refl}
use Rattle.std.proofs.Common.{option_map, ◌*ℤ◌, of_z, to_z, w64}
use Rattle.std.proofs.lemmas.Bool.{cond-false, cond-true, le-leb, lt-leb}
use Rattle.std.proofs.lemmas.Bool.Decides.{nat_tests}
use Rattle.std.proofs.lemmas.Int.{ints}
use Rattle.std.proofs.lemmas.List.{append-nil, take_all}
use Rattle.std.proofs.lemmas.List.Elements.{All-cons, All-nil}
use Rattle.std.specs.Char.{is_ascii_digit}
use Rattle.tk_problem.specs.Places.{greatest_coordinate}
use Rattle.tk_words.specs.declared.fault.TextKind.TheVariants as kinds
use Rattle.tk_words.specs.Decimal.{decimal_of, limited, number_behind, number_of}
use Rattle.tk_words.specs.Lex.{behind, digits, front, integer, is_blank, natural}
use Rattle.tk_words.proofs.NumberLaws.Digits.{billionths_is}
use Rattle.tk_words.proofs.NumberLaws.Numbers.{digits-first, digits-rest, digits_join, natural-parts}

-- one digit more
pub digits-more : (n : ℕ) (bs : List ℕ) (m b : ℕ) → digits n bs ≡ Some m → is_ascii_digit b ≡ true
    → digits n (bs ++ b ∷ []) ≡ Some (m * 10 + (b - 48))
digits-more n bs m b e digit = digits_join n m bs (b ∷ []) e ∙ rw digit refl

-- digits end no token
pub digits-solid : (n : ℕ) (bs : List ℕ) (m : ℕ) → digits n bs ≡ Some m
    → All (λ b. (is_blank b || b == 10) ≡ false) bs
digits-solid n [] m e = All-nil (λ b. (is_blank b || b == 10) ≡ false)
digits-solid n (b ∷ bs) m e =
    let digit = digits-first n b bs m e in
    All-cons (λ b. (is_blank b || b == 10) ≡ false) b bs (grind (arith, nat_tests))
    (digits-solid (n * 10 + (b - 48)) bs m (digits-rest n b bs m e))

digits-front : (n : ℕ) (bs : List ℕ) (m : ℕ) → digits n bs ≡ Some m → front is_ascii_digit bs ≡ bs
digits-front n [] m e = refl
digits-front n (b ∷ bs) m e =
    rw (digits-first n b bs m e)
    (ap (λ l. b ∷ l) (digits-front (n * 10 + (b - 48)) bs m (digits-rest n b bs m e)))

digits-behind : (n : ℕ) (bs : List ℕ) (m : ℕ) → digits n bs ≡ Some m → behind is_ascii_digit bs ≡ []
digits-behind n [] m e = refl
digits-behind n (b ∷ bs) m e =
    rw (digits-first n b bs m e) (digits-behind (n * 10 + (b - 48)) bs m (digits-rest n b bs m e))

digits-number : (n : ℕ) (bs : List ℕ) (m : ℕ) → digits n bs ≡ Some m → number_behind n bs ≡ m
digits-number n [] m e = cc
digits-number n (b ∷ bs) m e = digits-number (n * 10 + (b - 48)) bs m (digits-rest n b bs m e)

-- a digit is no sign
no_sign : (b : ℕ) → is_ascii_digit b ≡ true → (eqb b 45 ≡ false) × (eqb b 43 ≡ false)
no_sign b digit = (grind (arith, nat_tests), grind (arith, nat_tests))

pub natural-integer : (bs : List ℕ) (n : ℕ) → natural bs ≡ Some n → integer bs ≡ Some (pos n)
natural-integer [] n e = cc
natural-integer (b ∷ bs) n e =
    let sign = no_sign b (digits-first 0 b bs n (natural-parts (b ∷ bs) n e).1) in rw (sign.0, sign.1, e) refl

whole_number : (w : List ℕ) (n : ℕ) → number_of w ≡ n
    → number_of (take (length w + 9 + 0 - 0) (w ++ [])) * 10 ^ (length w + 9 + 0 - 0 - length (w ++ [])) ≡ n * 10 ^ 9
whole_number w n is =
    let nine : length w + 9 + 0 - 0 - length w ≡ 9 = omega arith in
    rw (append-nil w, take_all (length w + 9 + 0 - 0) w (omega arith), is, nine) refl

pub natural-decimal : (bs : List ℕ) (n : ℕ) → natural bs ≡ Some n → decimal_of bs ≡ Some (pos (n * 10 ^ 9))
natural-decimal [] n e = cc
natural-decimal (b ∷ bs) n e =
    let spelled = (natural-parts (b ∷ bs) n e).1 in
    let sign = no_sign b (digits-first 0 b bs n spelled) in
    let value =
    billionths_is (b ∷ bs) (b ∷ bs) [] [] [] 0 0 (length (b ∷ bs) + 9 + 0 - 0)
    (sym (digits-front 0 (b ∷ bs) n spelled)) (sym (digits-behind 0 (b ∷ bs) n spelled)) refl refl (omega arith) refl
    refl ∙ ap Some (whole_number (b ∷ bs) n (digits-number 0 (b ∷ bs) n spelled)) in
    rw (sign.0, sign.1) (ap (option_map pos) value)

pub natural-near : (bs : List ℕ) (n : ℕ) → natural bs ≡ Some n → n * 10 ^ 9 ≤ greatest_coordinate
    → limited (decimal_of bs) ≡ Ok (pos (n * 10 ^ 9))
natural-near bs n e low = ap limited (natural-decimal bs n e) ∙ cond-true _ _ _ (le-leb _ _ low)

pub natural-far : (bs : List ℕ) (n : ℕ) → natural bs ≡ Some n → greatest_coordinate < n * 10 ^ 9
    → limited (decimal_of bs) ≡ Err kinds.OutOfLimit
natural-far bs n e high = ap limited (natural-decimal bs n e) ∙ cond-false _ _ _ (lt-leb _ _ high)

-- the code's product of a whole number and a billion
pub billion-fold : (n : ℕ) → n ≤ 1000000000 → to_z w64 (of_z w64 (to_z w64 n *ℤ pos 1000000000)) ≡ pos (n * 10 ^ 9)
billion-fold n low = omega (arith, ints)
