use Rattle.std.proofs.Common.{arith}
use Rattle.std.specs.List.{concat}
use Rattle.tk_routes.proofs.FirstFaults.{bad_customer, twice_served, served_on, served_whole}
use Rattle.tk_routes.proofs.checking.check.serve.Goals as goal
use Rattle.tk_routes.proofs.checking.check.serve.Goals.{then-customer-eq0-via-then-customer-eq0}
use Rattle.tk_routes.proofs.checking.check.serve.Goals.{then-customer-eq0-via-else-customer-eq0+then-customer-served}

pub returns-then-customer-eq0 : goal.returns-then-customer-eq0
returns-then-customer-eq0 c before after number h =
    let n = c.loop-customer in
    elim c.then-customer-eq0.branch [
      | then-customer-eq0-via-then-customer-eq0 w ↦
          bad_customer _ n.served before after _ _ n.customer-index number c.loop-customer-test.true n.auto.served
          (n.invariant (concat before) h) (λ city. omega (arith, city.0))
      | then-customer-eq0-via-else-customer-eq0+then-customer-served w ↦
          bad_customer _ n.served before after _ _ n.customer-index number c.loop-customer-test.true n.auto.served
          (n.invariant (concat before) h) (λ city. omega (arith, city.1, n.auto.served))
    ]

pub returns-then-served-customer : goal.returns-then-served-customer
returns-then-served-customer c before after number h =
    let n = c.loop-customer in
    twice_served _ n.served before after _ _ n.customer-index number c.loop-customer-test.true n.auto.served
    (n.invariant (concat before) h) (omega arith, omega arith) c.if-served-customer.true

pub loop-customer-preserved : goal.loop-customer-preserved
loop-customer-preserved c earlier h =
    let n = c.loop-customer in
    served_on n.served earlier _ n.customer-index c.loop-customer-test.true (n.invariant earlier h)
    (omega arith, omega arith) c.if-served-customer.false

pub returns : goal.returns
returns c before after number h =
    served_whole c.loop-customer.served (concat before) _ c.loop-customer.customer-index c.loop-customer-test.false
    (c.loop-customer.invariant (concat before) h)
