-- The least and the greatest of some numbers, and of one more.
use Rattle.std.proofs.Common.{◌≡◌, ℕ, zero, suc, ◌<◌, ◌≤◌, ◌⊎◌, inl, inr, List, [], ◌∷◌, ◌++◌, refl, sym, ◌∙◌, subst}
use Rattle.std.proofs.Common.{arith, ap, length, take, ◌+◌}
use Rattle.std.proofs.lemmas.List.{take_more, take_all, map-append}
use Rattle.tk_problem.specs.declared.point.Point.{Point}
use Rattle.tk_problem.specs.Places.{origin}
use Rattle.std.specs.Prelude.{ℤ, ◌≤ℤ◌, All, Contains, map, slice_index_or}
use Rattle.std.specs.Int.{int_min, int_max}
use Rattle.std.proofs.lemmas.Int.{ints, clamps, by_lt_z, to_z-of_z}
use Rattle.std.proofs.lemmas.List.Elements.{Contains-append_left, Contains-append_right, All-append, All-weaker}
use mir.Syntax.{w64}
use mir.Val.{SFits, of_z, to_z}
use Rattle.tk_picture.specs.Extents.{IsBound, IsLowest, IsHighest}
use Rattle.tk_picture.specs.Sides.{longer_side}

All-one : (P : ℤ → Type 0) (z : ℤ) → P z → All P (z ∷ [])
All-one P z holds zero d within = holds
All-one P z holds (suc k) d within = absurd (omega arith)

contains_one : (z : ℤ) → Contains (z ∷ []) z
contains_one z = (0, omega arith, refl)

-- the coordinates of the places up to one more
pub coordinates_more : (f : Point → ℤ) (places : List Point) (i : ℕ) (place : Point) → i < length places
    → place ≡ slice_index_or places i origin
    → map f (take i places) ++ f place ∷ [] ≡ map f (take (i + 1) places)
coordinates_more f places i place within is =
    sym (ap (λ l. map f l) (take_more places i origin within ∙ ap (λ p. take i places ++ p ∷ []) (sym is))
    ∙ map-append f (take i places) (place ∷ []))

-- a number as it is kept in 64 bits
abbrev kept : ℤ → ℤ
kept z = to_z w64 (of_z w64 z)

kept_both : (f : ℤ → ℤ → ℤ) (m z r : ℤ) → SFits w64 m → SFits w64 z → r ≡ f (kept m) (kept z) → r ≡ f m z
kept_both f m z r m_fits z_fits is = is ∙ ap (λ v. f v (kept z)) (to_z-of_z w64 m m_fits)
    ∙ ap (f m) (to_z-of_z w64 z z_fits)

module _ (Bounds : ℤ → ℤ → Type 0) where
  -- one of m and z, which bounds them both, bounds z and the numbers that m bounds
  bound_next : (m z r : ℤ) (zs more : List ℤ) → SFits w64 r → (r ≡ m) ⊎ (r ≡ z)
      → ((x : ℤ) → Bounds m x → Bounds r x) → Bounds r z → zs ++ z ∷ [] ≡ more → IsBound Bounds m zs →
      IsBound Bounds (kept r) more
  bound_next m z r zs more fits which further here all h = rw (to_z-of_z w64 r fits, ← all) (record {
    one = elim which [
      | inl e ↦ subst (Contains (zs ++ z ∷ [])) (sym e) (Contains-append_left zs (z ∷ []) m h.one)
      | inr e ↦ subst (Contains (zs ++ z ∷ [])) (sym e) (Contains-append_right zs (z ∷ []) z (contains_one z))
    ];
    all = All-append (Bounds r) zs (z ∷ []) (All-weaker (Bounds m) (Bounds r) further zs h.all)
        (All-one (Bounds r) z here);
  })

  -- of all places
  pub bound_whole : (f : Point → ℤ) (places : List Point) (i : ℕ) (m : ℤ) → SFits w64 m → length places ≤ i →
      IsBound Bounds m (map f (take i places)) → IsBound Bounds (kept m) (map f places)
  bound_whole f places i m fits all h =
      subst (λ v. IsBound Bounds v (map f places)) (sym (to_z-of_z w64 m fits))
      (subst (λ l. IsBound Bounds m (map f l)) (take_all i places all) h)

pub least_next : (m z r : ℤ) (zs more : List ℤ) → SFits w64 m → SFits w64 z → SFits w64 r →
    r ≡ int_min (kept m) (kept z) → zs ++ z ∷ [] ≡ more → IsLowest m zs → IsLowest (kept r) more
least_next m z r zs more m_fits z_fits r_fits is =
    let value = kept_both int_min m z r m_fits z_fits is in
    bound_next (λ least x. least ≤ℤ x) m z r zs more r_fits
    (by_lt_z z m (λ lt. inr (omega (arith, ints, clamps, lt))) (λ le. inl (omega (arith, ints, clamps, le))))
    (λ x low. omega (arith, ints, clamps, low)) (omega (arith, ints, clamps))

pub greatest_next : (m z r : ℤ) (zs more : List ℤ) → SFits w64 m → SFits w64 z → SFits w64 r →
    r ≡ int_max (kept m) (kept z) → zs ++ z ∷ [] ≡ more → IsHighest m zs → IsHighest (kept r) more
greatest_next m z r zs more m_fits z_fits r_fits is =
    let value = kept_both int_max m z r m_fits z_fits is in
    bound_next (λ greatest x. x ≤ℤ greatest) m z r zs more r_fits
    (by_lt_z z m (λ lt. inl (omega (arith, ints, clamps, lt))) (λ le. inr (omega (arith, ints, clamps, le))))
    (λ x high. omega (arith, ints, clamps, high)) (omega (arith, ints, clamps))

pub side_kept : (left right bottom top : ℤ) (s : ℕ) → SFits w64 left → SFits w64 right → SFits w64 bottom
    → SFits w64 top → s ≡ longer_side left right bottom top
    → s ≡ longer_side (kept left) (kept right) (kept bottom) (kept top)
side_kept left right bottom top s a b c d is =
    is ∙ sym (ap (λ v. longer_side v (kept right) (kept bottom) (kept top)) (to_z-of_z w64 left a)
    ∙ ap (λ v. longer_side left v (kept bottom) (kept top)) (to_z-of_z w64 right b)
    ∙ ap (λ v. longer_side left right v (kept top)) (to_z-of_z w64 bottom c)
    ∙ ap (longer_side left right bottom) (to_z-of_z w64 top d))
