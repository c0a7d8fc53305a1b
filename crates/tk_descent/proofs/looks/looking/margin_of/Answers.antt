use Rattle.std.proofs.Common.{◌≡◌, ◌+◌, ◌≤◌, ℕ, ℤ, pos, ◌+ℤ◌, ◌-ℤ◌, FitsSigned, to_z, of_z, w64, arith}
use Rattle.std.proofs.lemmas.Int.{ints}
use Rattle.tk_problem.specs.declared.limits.TheConstants.{DISTANCE_LIMIT}
use Rattle.tk_descent.proofs.OfferLists.Gaining.{difference_fits}
use Rattle.tk_descent.proofs.looks.looking.margin_of.Goals as goal

sum_fits : (m v w : ℤ) (p q r k b : ℕ) → m ≡ pos (p + q) -ℤ pos r → v ≡ pos k → w ≡ pos b →
    p ≤ DISTANCE_LIMIT → q ≤ DISTANCE_LIMIT → r ≤ DISTANCE_LIMIT → k ≤ DISTANCE_LIMIT → b ≤ DISTANCE_LIMIT →
    FitsSigned w64 (to_z w64 (of_z w64 (to_z w64 (of_z w64 m) -ℤ to_z w64 (of_z w64 v))) +ℤ to_z w64 (of_z w64 w))
sum_fits m v w p q r k b first second third lp lq lr lk lb = omega (arith, ints)

margin_is : (m v w : ℤ) (p q r k b : ℕ) → m ≡ pos (p + q) -ℤ pos r → v ≡ pos k → w ≡ pos b →
    p ≤ DISTANCE_LIMIT → q ≤ DISTANCE_LIMIT → r ≤ DISTANCE_LIMIT → k ≤ DISTANCE_LIMIT → b ≤ DISTANCE_LIMIT →
    to_z w64 (of_z w64 (to_z w64 (of_z w64 (to_z w64 (of_z w64 m) -ℤ to_z w64 (of_z w64 v)))
    +ℤ to_z w64 (of_z w64 w))) ≡ pos (p + q + b) -ℤ pos (r + k)
margin_is m v w p q r k b first second third lp lq lr lk lb = omega (arith, ints)

pub overflow_sub-result : goal.overflow_sub-result
overflow_sub-result g c =
    let near = g.met.M.Metric.distance_limit c.args.metric.now in
    difference_fits _ _ _ _ _ _ c.requires.piece.1 c.requires.across (near _ _) (near _ _) (near _ _) (near _ _)

pub overflow_add-result : goal.overflow_add-result
overflow_add-result g c =
    let near = g.met.M.Metric.distance_limit c.args.metric.now in
    sum_fits _ _ _ _ _ _ _ _ c.requires.piece.1 c.requires.across c.requires.beside
    (near _ _) (near _ _) (near _ _) (near _ _) (near _ _)

pub returns : goal.returns
returns g c =
    let near = g.met.M.Metric.distance_limit c.args.metric.now in
    margin_is _ _ _ _ _ _ _ _ c.requires.piece.1 c.requires.across c.requires.beside
    (near _ _) (near _ _) (near _ _) (near _ _) (near _ _)
