-- Points in whole numbers of a unit.
use Rattle.std.proofs.Common.{◌≡◌, ◌≢◌, false, ℤ, ◌≤◌, List, All, get_or, map, pos, ◌*ℤ◌, arith, sym, ap, ◌∙◌}
use Rattle.std.proofs.Common.{true, ◌&&◌, int_eq, to_z, of_z, w32, w64}
use Rattle.std.proofs.lemmas.Bool.Decides.{Decides-int_eq}
use Rattle.std.proofs.lemmas.Bool.{and_parts, false≢true}
use Rattle.std.proofs.lemmas.Int.{ints}
use Rattle.std.proofs.lemmas.List.Elements.{All-map}
use Rattle.std.specs.Int.RustNames.{unsigned_abs}
use Rattle.std.specs.Prelude.{FitsSigned}
use Rattle.std.specs.Int.Signed.{quot_z}
use Rattle.tk_problem.specs.declared.limits.TheConstants.{COORDINATE_LIMIT}
use Rattle.tk_problem.specs.declared.point.Point.{Point}
use Rattle.tk_problem.specs.declared.point.WholePoint.{WholePoint}
use Rattle.tk_problem.specs.declared.unit.Unit.{Unit}
use Rattle.tk_problem.specs.declared.unit.Unit.TheVariants.{One}
use Rattle.tk_problem.specs.Places.{IsNearOrigin}
use Rattle.tk_problem.specs.Units.{place_in, step_of}
use Rattle.tk_problem.specs.Laws.Units.{place_in-near}

pub places_in-near : (unit : Unit) (ps : List WholePoint) → All IsNearOrigin (map (place_in unit) ps)
places_in-near unit ps = All-map IsNearOrigin (place_in unit) ps (λ k d h. place_in-near unit (get_or ps k d))

pub product-fits : (unit : Unit) (x step : ℤ) → step ≡ pos (step_of unit) → unsigned_abs x ≤ COORDINATE_LIMIT
    → FitsSigned w64 (to_z w64 (of_z w64 (to_z w32 (of_z w32 x))) *ℤ to_z w64 (of_z w64 step))
product-fits One x step is near = rw is (omega (arith, ints, near))
product-fits _ x step is near = rw is (omega (arith, ints, near))

-- the product of a coordinate and the unit, as the code computes it
pub product-in : (unit : Unit) (x step : ℤ) → step ≡ pos (step_of unit) → unsigned_abs x ≤ COORDINATE_LIMIT
    → to_z w64 (of_z w64 (to_z w64 (of_z w64 (to_z w32 (of_z w32 x))) *ℤ to_z w64 (of_z w64 step))) ≡ x *ℤ pos
    (step_of unit)
product-in One x step is near = rw is (omega (arith, ints, near))
product-in _ x step is near = rw is (omega (arith, ints, near))

-- ---- points and their coordinates

abbrev point : ℤ → ℤ → Point
point x y = record { x = x; y = y }

pub same_point : (a b x y : ℤ) → a ≡ x → b ≡ y → point a b ≡ point x y
same_point a b x y first second = ap (λ z. point z b) first ∙ ap (λ z. point x z) second

pub points_equal : (p q : Point) → true ≡ (int_eq p.x q.x && int_eq p.y q.y) → p ≡ q
points_equal p q h =
    let parts = and_parts (int_eq p.x q.x) (int_eq p.y q.y) (sym h) in
    same_point p.x p.y q.x q.y ((Decides-int_eq p.x q.x).0 parts.0) ((Decides-int_eq p.y q.y).0 parts.1)

-- the quotient of such a product and the unit
quotient-of : (unit : Unit) (w : ℤ) → unsigned_abs w ≤ COORDINATE_LIMIT
    → quot_z (to_z w64 (of_z w64 (w *ℤ pos (step_of unit)))) (pos (step_of unit)) ≡ w
quotient-of One w near = omega (arith, ints, near)
quotient-of _ w near = omega (arith, ints, near)

pub whole-quotient : (unit : Unit) (x quotient w : ℤ) → w *ℤ pos (step_of unit) ≡ x
    → quotient ≡ quot_z (to_z w64 (of_z w64 x)) (pos (step_of unit)) → unsigned_abs w ≤ COORDINATE_LIMIT → quotient ≡ w
whole-quotient unit x quotient w product is near =
    is ∙ ap (λ z. quot_z (to_z w64 (of_z w64 z)) (pos (step_of unit))) (sym product) ∙ quotient-of unit w near

cast-near : (w : ℤ) → unsigned_abs w ≤ COORDINATE_LIMIT → to_z w32 (of_z w32 (to_z w64 (of_z w64 w))) ≡ w
cast-near w near = omega (arith, ints, near)

-- and in 32 bits
pub quotient-in : (unit : Unit) (x quotient w : ℤ) → w *ℤ pos (step_of unit) ≡ x
    → quotient ≡ quot_z (to_z w64 (of_z w64 x)) (pos (step_of unit)) → unsigned_abs w ≤ COORDINATE_LIMIT
    → to_z w32 (of_z w32 (to_z w64 (of_z w64 quotient))) ≡ w
quotient-in unit x quotient w product is near =
    ap (λ z. to_z w32 (of_z w32 (to_z w64 (of_z w64 z)))) (whole-quotient unit x quotient w product is near)
    ∙ cast-near w near

pub points_differ : (p q : Point) → false ≡ (int_eq p.x q.x && int_eq p.y q.y) → p ≢ q
points_differ p q differ same =
    let xs = (Decides-int_eq p.x q.x).1 (ap (λ r. r.x) same) in
    let ys = (Decides-int_eq p.y q.y).1 (ap (λ r. r.y) same) in
    false≢true (rw (xs, ys) at differ)
