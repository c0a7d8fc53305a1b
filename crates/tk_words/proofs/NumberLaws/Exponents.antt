-- What an exponent spells.
use Rattle.std.proofs.Common.{◌≡◌, ℕ, suc, ◌-◌, ◌^◌, ◌<◌, ◌≤◌, ◌==◌, ◌||◌, true, false, List, [], ◌∷◌, length, get_or}
use Rattle.std.proofs.Common.{take, drop, Option, None, Some, option_map, ℤ, pos, of_z, to_z, w64, eqb, ltb, refl, sym}
use Rattle.std.proofs.Common.{ap, ◌∙◌, arith}
use Rattle.std.specs.Int.RustNames.{unsigned_abs}
use Rattle.std.proofs.lemmas.Bool.{cond_both, le-ltb}
use Rattle.std.proofs.lemmas.Int.{to_z-of_z, fits_signed_from_abs}
use Rattle.std.proofs.lemmas.List.{take_all}
use Rattle.tk_words.specs.Decimal.{exponent, powers, small}
use Rattle.tk_words.specs.Lex.{natural, signed}

-- ---- 1 to 3 digits

signed_none : (o : Option ℕ) → None ≡ signed pos o → o ≡ None
signed_none None e = refl
signed_none (Some n) e = absurd cc

signed_some : (o : Option ℕ) (z : ℤ) → Some z ≡ signed pos o → (n : ℕ) × (o ≡ Some n) × (z ≡ pos n)
signed_some None z e = absurd cc
signed_some (Some n) z e = (n, refl, cc)

pub small-none : (bs : List ℕ) → None ≡ signed pos (natural bs) → small bs ≡ None
small-none bs e =
    rw (signed_none (natural bs) e)
    (cond_both (ltb 3 (length bs)) None None (λ o. o ≡ None) (λ t. refl) (λ t. refl))

-- the code's number
pub stored : (z : ℤ) → unsigned_abs z < 10 ^ 18 → to_z w64 (of_z w64 z) ≡ z
stored z low = to_z-of_z w64 z (fits_signed_from_abs w64 z (omega arith))

pub small-some : (bs : List ℕ) (z : ℤ) → length bs ≤ 3 → Some z ≡ signed pos (natural bs) → unsigned_abs z < 10 ^ 18
    → small bs ≡ Some (unsigned_abs (to_z w64 (of_z w64 z)))
small-some bs z short e low =
    let (n, spelled, is) = signed_some (natural bs) z e in
    rw (le-ltb 3 (length bs) short) (spelled ∙ ap (λ x. Some (unsigned_abs x)) (sym (stored z low ∙ is)))

-- ---- an optional sign

pub powers-minus : (bs : List ℕ) (r : Option ℕ) → 0 < length bs → get_or bs 0 0 ≡ 45 →
    r ≡ small (take (length bs - 1) (drop 1 bs)) → powers bs ≡ option_map (λ n. (0, n)) r
powers-minus [] r some minus e = absurd (omega arith)
powers-minus (b ∷ bs) r some minus e =
    let is : b ≡ 45 = minus in
    let all : take (suc (length bs) - 1) bs ≡ bs = take_all (suc (length bs) - 1) bs (omega arith) in
    rw (is, e, all) refl

pub powers-plus : (bs : List ℕ) (r : Option ℕ) → 0 < length bs → get_or bs 0 0 ≡ 43 →
    r ≡ small (take (length bs - 1) (drop 1 bs)) → powers bs ≡ option_map (λ n. (n, 0)) r
powers-plus [] r some plus e = absurd (omega arith)
powers-plus (b ∷ bs) r some plus e =
    let is : b ≡ 43 = plus in
    let all : take (suc (length bs) - 1) bs ≡ bs = take_all (suc (length bs) - 1) bs (omega arith) in
    rw (is, e, all) refl

-- ---- an exponent after the digits

pub exponent-none : (bs : List ℕ) → length bs < 1 → exponent bs ≡ Some (0, 0)
exponent-none [] none = refl
exponent-none (b ∷ bs) none = absurd (omega arith)

pub exponent-some : (bs : List ℕ) → 0 < length bs → (get_or bs 0 0 == 101 || get_or bs 0 0 == 69) ≡ true →
    exponent bs ≡ powers (take (length bs - 1) (drop 1 bs))
exponent-some [] some letter = absurd (omega arith)
exponent-some (b ∷ bs) some letter =
    let is : (eqb b 101 || eqb b 69) ≡ true = letter in
    let all : take (suc (length bs) - 1) bs ≡ bs = take_all (suc (length bs) - 1) bs (omega arith) in
    rw (is, all) refl

pub exponent-other : (bs : List ℕ) → 0 < length bs → (get_or bs 0 0 == 101 || get_or bs 0 0 == 69) ≡ false →
    exponent bs ≡ None
exponent-other [] some letter = absurd (omega arith)
exponent-other (b ∷ bs) some letter = let is : (eqb b 101 || eqb b 69) ≡ false = letter in rw is refl
