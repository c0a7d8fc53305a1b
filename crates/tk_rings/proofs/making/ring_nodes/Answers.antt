use Rattle.std.proofs.Common.{length, ap, arith}
use Rattle.std.proofs.lemmas.Grind.{common_steps}
use Rattle.tk_routes.specs.Cvrps.{instance_of}
use Rattle.tk_rings.proofs.RingNodes.{length-ring_nodes}
use Rattle.tk_rings.proofs.making.ring_nodes.Goals as goal

pub returns-clause-size : goal.returns-clause-size
returns-clause-size c =
    let all = length-ring_nodes (instance_of c.args.cvrp.now) c.loop-j.j in
    omega (arith, ap length c.loop-j.invariant.nodes, all, c.loop-j-test.false, c.loop-j.auto.j-end)

pub loop-j-preserved : goal.loop-j-preserved
loop-j-preserved c =
    record { nodes = grind (arith, common_steps); known = grind (arith, common_steps) }
