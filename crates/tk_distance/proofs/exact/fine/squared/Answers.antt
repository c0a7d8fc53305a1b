use Rattle.std.proofs.Common.{ℤ, pos, negsuc, ◌≡◌, ◌≤◌, ◌*◌, ◌*ℤ◌, ◌∙◌, ap, arith, refl, lit<}
use Rattle.std.proofs.Common.{FitsSigned, to_z, of_z, w64}
use Rattle.std.proofs.lemmas.Int.{ints, fits_signed_mul, to_z-of_z}
use Rattle.std.proofs.lemmas.Nat.{mul-le}
use Rattle.std.specs.Int.{w128}
use Rattle.std.specs.Int.RustNames.{unsigned_abs}
use Rattle.tk_distance.specs.Distance.{reach}
use Rattle.tk_distance.proofs.exact.fine.squared.Goals as goal

fits_squared : (wide : ℤ) → unsigned_abs wide ≤ reach → FitsSigned w128 (wide *ℤ wide)
fits_squared wide near = fits_signed_mul w128 wide wide reach reach near near (lit< tt)

squares : (z : ℤ) → z *ℤ z ≡ pos (unsigned_abs z * unsigned_abs z)
squares (pos n) = refl
squares (negsuc n) = refl

square_is : (wide : ℤ) → unsigned_abs wide ≤ reach →
    to_z w128 (of_z w128 (wide *ℤ wide)) ≡ pos (unsigned_abs wide * unsigned_abs wide)
square_is wide near = to_z-of_z w128 (wide *ℤ wide) (fits_squared wide near) ∙ squares wide

value_squared : (wide : ℤ) → unsigned_abs wide ≤ reach →
    unsigned_abs (to_z w128 (of_z w128 (wide *ℤ wide))) ≡ unsigned_abs wide * unsigned_abs wide
value_squared wide near = ap unsigned_abs (square_is wide near)

pub overflow_mul-result : goal.overflow_mul-result
overflow_mul-result c =
    let wide : ℤ = to_z w128 (of_z w128 (to_z w64 (of_z w64 c.args.difference))) in
    fits_squared wide (omega (arith, ints))

pub returns-clause-value : goal.returns-clause-value
returns-clause-value c =
    let wide : ℤ = to_z w128 (of_z w128 (to_z w64 (of_z w64 c.args.difference))) in
    let same : wide ≡ c.args.difference = omega (arith, ints) in
    value_squared wide (omega (arith, ints)) ∙ ap (λ z. unsigned_abs z * unsigned_abs z) same

pub returns-clause-bound : goal.returns-clause-bound
returns-clause-bound c =
    let wide : ℤ = to_z w128 (of_z w128 (to_z w64 (of_z w64 c.args.difference))) in
    let near : unsigned_abs wide ≤ reach = omega (arith, ints) in
    omega (arith, value_squared wide near, mul-le (unsigned_abs wide) (unsigned_abs wide) reach reach near near)

pub overflow_cast-wide : goal.overflow_cast-wide
overflow_cast-wide c = omega (arith, ints)

pub overflow_cast-result : goal.overflow_cast-result
overflow_cast-result c =
    let wide : ℤ = to_z w128 (of_z w128 (to_z w64 (of_z w64 c.args.difference))) in
    let near : unsigned_abs wide ≤ reach = omega (arith, ints) in
    rw (square_is wide near)
    (tt, omega (arith, mul-le (unsigned_abs wide) (unsigned_abs wide) reach reach near near))
