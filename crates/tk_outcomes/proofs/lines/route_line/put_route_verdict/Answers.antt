use Rattle.std.proofs.Common.{◌≡◌, rules}
use Rattle.std.specs.Int.RustNames.{unsigned_abs}
use Rattle.tk_outcomes.proofs.lines.route_line.put_route_verdict.Goals as goal

pub returns-in-BadCustomer : goal.returns-in-BadCustomer
returns-in-BadCustomer g c = rw c.in-BadCustomer.is c.put_place_line.ensures

pub returns-in-ServedTwice : goal.returns-in-ServedTwice
returns-in-ServedTwice g c = rw c.in-ServedTwice.is c.put_customer_line.ensures

pub returns-in-OverCapacity : goal.returns-in-OverCapacity
returns-in-OverCapacity g c = rw c.in-OverCapacity.is c.put_place_line-in-OverCapacity.ensures

pub returns-in-NotServed : goal.returns-in-NotServed
returns-in-NotServed g c = rw c.in-NotServed.is c.put_customer_line-in-NotServed.ensures

pub returns-in-WrongCost : goal.returns-in-WrongCost
returns-in-WrongCost g c =
    let read : c.unsigned_abs-in-WrongCost.result ≡ unsigned_abs c.in-WrongCost.read = search rules in
    let counted : c.unsigned_abs-in-WrongCost-2.result ≡ unsigned_abs c.in-WrongCost.counted = search rules in
    rw c.in-WrongCost.is (rw counted at (rw read at c.put_cost_line.ensures))
