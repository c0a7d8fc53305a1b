-- Points from two arrays.
use Rattle.std.proofs.Common.{◌≡◌, ◌∙◌, ℕ, ℤ, ◌+◌, ◌<◌, List, ⊎_elim, ap, arith, sym, subst}
use Rattle.std.specs.Prelude.{pos, slice_index_or}
use Rattle.std.proofs.lemmas.Bool.{cases_eq}
use Rattle.tk_problem.specs.Places.{IsNearOrigin}
use Rattle.tk_problem.specs.declared.point.Point.{Point}
use Rattle.tk_for_c.specs.Points.{place_at}

-- one more point is within the limit
pub one_near : (xs ys : List ℤ) (i : ℕ) → ((j : ℕ) → j < i → IsNearOrigin (place_at xs ys j)) →
    IsNearOrigin (place_at xs ys i) → (j : ℕ) → j < i + 1 → IsNearOrigin (place_at xs ys j)
one_near xs ys i before here j below =
    ⊎_elim (λ e. subst (λ k. IsNearOrigin (place_at xs ys k)) (sym e) here) (λ ne. before j (omega arith))
    (cases_eq j i)

-- the point with these coordinates
pub same_place : (xs ys : List ℤ) (i : ℕ) (p : Point) → slice_index_or xs i (pos 0) ≡ p.x →
    slice_index_or ys i (pos 0) ≡ p.y → p ≡ place_at xs ys i
same_place xs ys i p x y =
    ap (λ (n : ℤ). record { x = n; y = p.y }) (sym x)
    ∙ ap (λ (n : ℤ). record { x = slice_index_or xs i (pos 0); y = n }) (sym y)
