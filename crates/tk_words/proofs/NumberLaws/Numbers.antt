-- Numbers by their digits.
use Rattle.std.proofs.Common.{◌≡◌, ℕ, ◌+◌, ◌-◌, ◌*◌, ◌^◌, ◌<◌, ◌≤◌, List, [], ◌∷◌, ◌++◌, length, Bool, true, false, ltb}
use Rattle.std.proofs.Common.{Some, ap, arith, lit<, refl}
use Rattle.std.specs.Char.{is_ascii_digit}
use Rattle.std.proofs.lemmas.Bool.{ltb-false, true_from_ne_false}
use Rattle.std.proofs.Math.Nat.{pow-le-pow_right}
use Rattle.std.proofs.lemmas.Grind.{pow_more}
use Rattle.std.proofs.lemmas.Bool.Decides.{nat_tests}
use Rattle.tk_words.specs.Lex.{digits, natural}

-- a number of at most 18 digits, and one with room for another digit
pub below_limit : (n i : ℕ) → n < 10 ^ i → i ≤ 18 → n < 10 ^ 18
below_limit n i small short = omega (arith, pow-le-pow_right {n = 10} (lit< tt) {i = i} {j = 18} short)

pub room_for_digit : (n i : ℕ) → n < 10 ^ i → i < 18 → n * 10 + 9 < 10 ^ 18
room_for_digit n i small short =
    omega (arith, pow_more 10 i, pow-le-pow_right {n = 10} (lit< tt) {i = i + 1} {j = 18} (omega arith))

-- what 1 to 18 digits spell
pub natural-digits : (bs : List ℕ) → 0 < length bs → length bs ≤ 18 → natural bs ≡ digits 0 bs
natural-digits [] some short = absurd (omega arith)
natural-digits (b ∷ bs) some short = let e : ltb 18 (length (b ∷ bs)) ≡ false = grind (arith, nat_tests) in rw e refl

pub natural-parts : (bs : List ℕ) (n : ℕ) → natural bs ≡ Some n → (length bs ≤ 18) × (digits 0 bs ≡ Some n)
natural-parts [] n e = absurd cc
natural-parts (b ∷ bs) n e = by_length (ltb 18 (length (b ∷ bs))) refl
  where
    by_length : (t : Bool) → ltb 18 (length (b ∷ bs)) ≡ t → (length (b ∷ bs) ≤ 18) × (digits 0 (b ∷ bs) ≡ Some n)
    by_length true is = absurd (let k = rw is at e in cc)
    by_length false is = (ltb-false _ _ is, rw is at e)

-- ---- the first of some digits, and the others

pub digits-first : (n b : ℕ) (bs : List ℕ) (m : ℕ) → digits n (b ∷ bs) ≡ Some m → is_ascii_digit b ≡ true
digits-first n b bs m e = true_from_ne_false _ (λ p. absurd (let k = rw p at e in cc))

pub digits-rest : (n b : ℕ) (bs : List ℕ) (m : ℕ) → digits n (b ∷ bs) ≡ Some m → digits (n * 10 + (b - 48)) bs ≡ Some m
digits-rest n b bs m e = let p = digits-first n b bs m e in rw p at e

pub digits_join : (n v : ℕ) (xs ys : List ℕ) → digits n xs ≡ Some v → digits n (xs ++ ys) ≡ digits v ys
digits_join n v [] ys h = let same : n ≡ v = cc in ap (λ (k : ℕ). digits k ys) same
digits_join n v (x ∷ xs) ys h =
    rw (digits-first n x xs v h) (digits_join (n * 10 + (x - 48)) v xs ys (digits-rest n x xs v h))
