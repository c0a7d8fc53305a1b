-- The number of positions at which two arrays differ.
use Rattle.std.proofs.Common.{◌≡◌, ℕ, false, ◌+◌, ◌≤◌, suc, zero, ⊎_elim, List, [], ◌∷◌, length, set, refl, ap, arith}
use Rattle.std.proofs.Common.{eqb, cond}
use Rattle.std.proofs.lemmas.Bool.{eq-eqb}
use Rattle.std.proofs.lemmas.Bool.Decides.{eqb_tells}
use Rattle.tk_segments.specs.Writes.{changed}

-- 1 if two entries differ, otherwise 0
differs : ℕ → ℕ → ℕ
differs x y = cond (eqb x y) 0 1

differs-refl : (x : ℕ) → differs x x ≡ 0
unfolding differs
differs-refl x = ap (λ b. cond b 0 1) (eq-eqb x x refl)

differs-le : (x y : ℕ) → differs x y ≤ 1
unfolding differs
differs-le x y =
    ⊎_elim
    (λ h. let e : differs x y ≡ 0 = ap (λ b. cond b 0 1) h.0 in omega (arith, e))
    (λ h. let e : differs x y ≡ 1 = ap (λ b. cond b 0 1) h.0 in omega (arith, e))
    (eqb_tells x y)

differs-other : (x y : ℕ) → eqb x y ≡ false → differs x y ≡ 1
unfolding differs
differs-other x y e = ap (λ b. cond b 0 1) e

differs-trans : (x y z : ℕ) → differs x z ≤ differs x y + differs y z
differs-trans x y z =
    ⊎_elim
    (λ h. let e : differs x z ≡ differs y z = ap (λ u. differs u z) h.1 in omega (arith, e))
    (λ h. omega (arith, differs-le x z, differs-other x y h.0))
    (eqb_tells x y)

changed-cons : (x y : ℕ) (xs ys : List ℕ) → changed (x ∷ xs) (y ∷ ys) ≡ differs x y + changed xs ys
unfolding differs
changed-cons x y xs ys = refl

pub changed-refl : (xs : List ℕ) → changed xs xs ≡ 0
changed-refl [] = refl
changed-refl (x ∷ xs) = omega (arith, changed-cons x x xs xs, differs-refl x, changed-refl xs)

pub changed-trans : (xs ys zs : List ℕ) → length xs ≤ length ys → changed xs zs ≤ changed xs ys + changed ys zs
changed-trans [] ys zs le = omega arith
changed-trans (x ∷ xs) [] zs le = absurd (omega arith)
changed-trans (x ∷ xs) (y ∷ ys) [] le = omega arith
changed-trans (x ∷ xs) (y ∷ ys) (z ∷ zs) le =
    omega (
      arith,
      changed-cons x z xs zs,
      changed-cons x y xs ys,
      changed-cons y z ys zs,
      differs-trans x y z,
      changed-trans xs ys zs (omega (arith, le)),
    )

pub changed-le : (xs ys : List ℕ) → changed xs ys ≤ length xs
changed-le [] ys = omega arith
changed-le (x ∷ xs) [] = omega arith
changed-le (x ∷ xs) (y ∷ ys) = omega (arith, changed-cons x y xs ys, differs-le x y, changed-le xs ys)

-- a write to one position
pub changed-set : (xs ys : List ℕ) (k v : ℕ) → changed xs (set ys k v) ≤ changed xs ys + 1
changed-set [] ys k v = omega arith
changed-set (x ∷ xs) [] k v = omega arith
changed-set (x ∷ xs) (y ∷ ys) zero v = omega (arith, changed-cons x v xs ys, changed-cons x y xs ys, differs-le x v)
changed-set (x ∷ xs) (y ∷ ys) (suc k) v =
    omega (arith, changed-cons x y xs (set ys k v), changed-cons x y xs ys, changed-set xs ys k v)
