use Rattle.std.proofs.Common.{arith}
use Rattle.tk_picture.proofs.RouteLegs.{last_leg, no_legs_put, one_more_leg}
use Rattle.tk_picture.proofs.page.legs.put_legs.Goals as goal

pub loop-customer-init : goal.loop-customer-init
loop-customer-init g c = no_legs_put c.depot-from.ensures.known c.depot-from.ensures.value

pub loop-customer-preserved : goal.loop-customer-preserved
loop-customer-preserved g c =
    one_more_leg c.node-node.result c.loop-customer-test.true c.node-node.ensures.value c.node-node.ensures.known
    c.loop-customer.invariant c.put_leg.ensures

pub returns : goal.returns
returns g c =
    last_leg (omega (arith, c.loop-customer-test.false)) c.loop-customer.invariant
    (rw c.depot.ensures.value at c.put_leg-2.ensures)
