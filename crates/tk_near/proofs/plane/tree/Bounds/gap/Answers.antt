use Rattle.std.proofs.Common.{arith, ◌≤◌}
use Rattle.std.specs.Prelude.{◌-ℤ◌}
use Rattle.std.specs.Int.RustNames.{unsigned_abs}
use Rattle.std.proofs.lemmas.Int.{ints}
use Rattle.tk_near.proofs.plane.tree.Bounds.gap.Goals as goal
use Rattle.tk_near.proofs.InPlane.TreeCandidates.{one_of_max}

pub returns-clause-beyond : goal.returns-clause-beyond
returns-clause-beyond c = λ p w.
    let x : c.gap_between-gap_x.result ≤ unsigned_abs (c.args.here.now.place.x -ℤ p.place.x) =
    let near = c.gap_between-gap_x.ensures p.place.x (omega (arith, ints)) (omega (arith, ints)) in
    omega (arith, ints, near) in
    let y : c.gap_between-gap_y.result ≤ unsigned_abs (c.args.here.now.place.y -ℤ p.place.y) =
    let near = c.gap_between-gap_y.ensures p.place.y (omega (arith, ints)) (omega (arith, ints)) in
    omega (arith, ints, near) in
    one_of_max c.min.result _ _ _ _ (omega arith) x y
