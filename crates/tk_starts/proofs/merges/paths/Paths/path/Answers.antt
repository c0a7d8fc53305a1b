use Rattle.std.proofs.Common.{arith}
use Rattle.tk_starts.proofs.Merging.Paths.PathWalked.{OnWay-init, OnWay-city, OnWay-more, OnWay-end}
use Rattle.tk_starts.proofs.merges.paths.Paths.path.Goals as goal

pub loop-c-init : goal.loop-c-init
loop-c-init c = rw c.new-cities.ensures.items (OnWay-init _ _ _ c.args.end c.requires.some.0 c.requires.some.1)

pub neighbour_past-next-requires-clause-city : goal.neighbour_past-next-requires-clause-city
neighbour_past-next-requires-clause-city c = omega (arith, (OnWay-city c.loop-c.invariant c.loop-c-test.true).0)

pub loop-c-smaller : goal.loop-c-smaller
loop-c-smaller c =
    let h = OnWay-city c.loop-c.invariant c.loop-c-test.true in
    omega (arith, h.0, h.1, c.in_ok-push.ensures.len, c.loop-c.cities.ok.0)

pub loop-c-preserved : goal.loop-c-preserved
loop-c-preserved c =
    rw c.in_ok-push.ensures.items
    (OnWay-more c.loop-c.invariant _ c.loop-c-test.true c.neighbour_past-next.ensures)

pub returns : goal.returns
returns c = OnWay-end c.loop-c.invariant c.loop-c-test.false
