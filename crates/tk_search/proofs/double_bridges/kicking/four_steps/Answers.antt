use Rattle.std.proofs.Common.{arith}
use Rattle.std.proofs.lemmas.Int.{ints}
use Rattle.tk_search.proofs.DoubleBridge.BridgeLength.{added_is}
use Rattle.tk_search.proofs.double_bridges.kicking.four_steps.Goals as goal

pub overflow_add-result-3 : goal.overflow_add-result-3
overflow_add-result-3 g c =
    let limit = g.met.M.Metric.distance_limit c.args.metric.now in
    omega (arith, ints, limit, c.dist.ensures, c.dist-2.ensures, c.dist-3.ensures, c.dist-4.ensures)

pub returns : goal.returns
returns g c =
    let limit = g.met.M.Metric.distance_limit c.args.metric.now in
    added_is _ _ _ _ _ _ _ _ c.dist.ensures c.dist-2.ensures c.dist-3.ensures c.dist-4.ensures (limit _ _) (limit _ _)
    (limit _ _) (limit _ _)
