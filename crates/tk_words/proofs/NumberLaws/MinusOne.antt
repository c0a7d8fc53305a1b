-- A token that is -1, cut short.
use Rattle.std.proofs.Common.{◌≡◌, ℕ, zero, suc, ◌+◌, ◌-◌, ◌*◌, ◌<◌, ◌≤◌, Bool, true, false, eqb, ltb, ◌||◌, List, inl}
use Rattle.std.proofs.Common.{inr, [], ◌∷◌, ◌++◌, length, Option, Some, None, pos, neg_ℤ, refl, ap, ◌∙◌, append_assoc}
use Rattle.std.proofs.Common.{arith}
use Rattle.std.proofs.lemmas.List.{length-append}
use Rattle.std.proofs.lemmas.Bool.{cases_lt, cond_both, eqb-true, false_from_ne_true, true_from_ne_false, lt-ltb}
use Rattle.tk_words.specs.Lex.{digits, natural, signed, integer}
use Rattle.tk_words.specs.MinusOne.{is_minus_one, begins_minus_one}
use Rattle.tk_words.proofs.BoolLaws.{or_true}
use Rattle.tk_words.proofs.NumberLaws.Numbers.{digits-first, digits-rest, digits_join, natural-digits, natural-parts}

-- the number of the first bytes of some
record Split (n : ℕ) (xs ys : List ℕ) (m : ℕ) : Type 0 where
  between : ℕ
  front : digits n xs ≡ Some between
  back : digits between ys ≡ Some m

digits_split : (n : ℕ) (xs ys : List ℕ) (m : ℕ) → digits n (xs ++ ys) ≡ Some m → Split n xs ys m
digits_split n [] ys m h = record { between = n; front = refl; back = h }
digits_split n (x ∷ xs) ys m h =
    let s = digits_split (n * 10 + (x - 48)) xs ys m (digits-rest n x (xs ++ ys) m h) in
    record { between = s.between; front = rw (digits-first n x (xs ++ ys) m h) s.front; back = s.back }

digits_ge : (n : ℕ) (xs : List ℕ) (m : ℕ) → digits n xs ≡ Some m → n ≤ m
digits_ge n [] m h = let is : n ≡ m = cc in omega (arith, is)
digits_ge n (x ∷ xs) m h = omega (arith, digits_ge (n * 10 + (x - 48)) xs m (digits-rest n x xs m h))

-- ---- 18 digits of the value 1

abbrev is_one : Option ℕ → Bool
is_one x = is_minus_one (signed (λ n. neg_ℤ (pos n)) x)

one_is : (x : Option ℕ) → is_one x ≡ true → x ≡ Some 1
one_is (Some (suc zero)) h = refl
one_is (Some (suc (suc n))) h = absurd (omega (arith, eqb-true (suc n) 0 h))
one_is _ h = absurd (let k : false ≡ true = h in cc)

ones_front : (xs zs : List ℕ) → is_one (natural (xs ++ zs)) ≡ true →
    (is_one (natural xs) || is_one (natural (xs ++ 49 ∷ []))) ≡ true
ones_front xs zs h =
    let all = natural-parts (xs ++ zs) 1 (one_is _ h) in
    let parts = digits_split 0 xs zs 1 all.1 in
    by_value xs zs parts.between parts.front parts.back (omega (arith, all.0, length-append xs zs))
  where
    by_value : (xs zs : List ℕ) (v : ℕ) → digits 0 xs ≡ Some v → digits v zs ≡ Some 1 → length xs + length zs ≤ 18 →
        (is_one (natural xs) || is_one (natural (xs ++ 49 ∷ []))) ≡ true
    by_value [] zs v front back short = refl
    by_value (x ∷ xs) [] zero front back short = absurd cc
    by_value (x ∷ xs) (z ∷ zs) zero front back short =
        let longer : natural ((x ∷ xs) ++ 49 ∷ []) ≡ Some 1 =
        natural-digits (x ∷ (xs ++ 49 ∷ [])) (omega arith) (omega (arith, short, length-append xs (49 ∷ [])))
        ∙ digits_join 0 0 (x ∷ xs) (49 ∷ []) front in
        rw longer (or_true (is_one (natural (x ∷ xs))))
    by_value (x ∷ xs) zs (suc zero) front back short =
        let one : natural (x ∷ xs) ≡ Some 1 = natural-digits (x ∷ xs) (omega arith) (omega (arith, short)) ∙ front in
        rw one refl
    by_value (x ∷ xs) zs (suc (suc v)) front back short = absurd (omega (arith, digits_ge (suc (suc v)) zs 1 back))

-- ---- bytes that are no -1

no_minus : (o : Option ℕ) → is_minus_one (signed pos o) ≡ false
no_minus None = refl
no_minus (Some n) = refl

-- bytes that begin with no minus
pub other_integer : (b : ℕ) (y : List ℕ) → eqb b 45 ≡ false → is_minus_one (integer (b ∷ y)) ≡ false
other_integer b y h =
    rw h (cond_both (eqb b 43) (signed pos (natural y)) (signed pos (natural (b ∷ y))) (λ o. is_minus_one o ≡ false)
    (λ t. no_minus (natural y)) (λ t. no_minus (natural (b ∷ y))))

pub other_begins : (b : ℕ) (y : List ℕ) → eqb b 45 ≡ false → begins_minus_one (b ∷ y) ≡ false
other_begins b y h = rw (other_integer b y h, other_integer b (y ++ 49 ∷ []) h) refl

pub begins_minus : (b : ℕ) (y : List ℕ) → begins_minus_one (b ∷ y) ≡ true → b ≡ 45
begins_minus b y h = eqb-true b 45 (true_from_ne_false _ (λ e. absurd (let k = other_begins b y e in cc)))

-- what goes on after the first bytes of a -1 is one no more
front_begins : (b : ℕ) (xs zs : List ℕ) → is_minus_one (integer ((b ∷ xs) ++ zs)) ≡ true →
    begins_minus_one (b ∷ xs) ≡ true
front_begins b xs zs h =
    let is = true_from_ne_false (eqb b 45) (λ e. absurd (let k = other_integer b (xs ++ zs) e in cc)) in
    rw is (ones_front xs zs (rw is at h))

pub no_more : (b : ℕ) (xs zs : List ℕ) → begins_minus_one (b ∷ xs) ≡ false →
    is_minus_one (integer ((b ∷ xs) ++ zs)) ≡ false
no_more b xs zs h = false_from_ne_true _ (λ t. absurd (let k = front_begins b xs zs t in cc))

pub no_more_with_one : (b : ℕ) (xs zs : List ℕ) → begins_minus_one (b ∷ xs) ≡ false →
    is_minus_one (integer (((b ∷ xs) ++ zs) ++ 49 ∷ [])) ≡ false
no_more_with_one b xs zs h = ap (λ (ys : List ℕ). is_minus_one (integer (b ∷ ys))) (append_assoc xs zs (49 ∷ []))
    ∙ no_more b xs (zs ++ 49 ∷ []) h

-- ---- they are short

natural_long : (bs : List ℕ) → 18 < length bs → natural bs ≡ None
natural_long [] h = absurd (omega arith)
natural_long (b ∷ bs) h = let t : ltb 18 (length (b ∷ bs)) ≡ true = lt-ltb _ _ h in rw t refl

pub integer_long : (bs : List ℕ) → 19 < length bs → integer bs ≡ None
integer_long [] h = absurd (omega arith)
integer_long (b ∷ bs) h =
    let tail = natural_long bs (omega arith) in
    cond_both (eqb b 45) _ _ (λ o. o ≡ None) (λ t. ap (signed (λ n. neg_ℤ (pos n))) tail)
    (λ t. cond_both (eqb b 43) _ _ (λ o. o ≡ None) (λ s. ap (signed pos) tail)
    (λ s. ap (signed pos) (natural_long (b ∷ bs) (omega arith))))

pub begins_short : (bs : List ℕ) → begins_minus_one bs ≡ true → length bs ≤ 19
begins_short bs h = elim (cases_lt 19 (length bs)) as (λ _. length bs ≤ 19) [
  | inl long ↦
      let one = integer_long bs long in
      let two = integer_long (bs ++ 49 ∷ []) (omega (arith, long, length-append bs (49 ∷ []))) in
      absurd (let k : false ≡ true = rw (one, two) at h in cc)
  | inr short ↦ short
]
