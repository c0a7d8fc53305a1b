use Rattle.std.proofs.Common.{ℕ, ◌≡◌, ◌<◌, ◌≤◌, ◌+◌, arith}
use Rattle.tk_routes.specs.Instance.{node_of}
use Rattle.tk_routes.proofs.cvrp.Cvrp.node.Goals as goal

node_of-below : (k depot : ℕ) → k < depot → k ≡ node_of depot k
node_of-below k depot below = grind arith

node_of-above : (k depot : ℕ) → depot ≤ k → k + 1 ≡ node_of depot k
node_of-above k depot above = grind arith

pub overflow_add-result : goal.overflow_add-result
overflow_add-result c = omega (arith, c.requires.1, c.args.self.now.few)

pub returns-then-customer-self-clause-value : goal.returns-then-customer-self-clause-value
returns-then-customer-self-clause-value c = node_of-below _ _ c.if-customer-self.true

pub returns-then-customer-self-clause-known : goal.returns-then-customer-self-clause-known
returns-then-customer-self-clause-known c = (c.requires.0, omega (arith, c.requires.1, c.args.self.now.known.1))

pub returns-else-customer-self-clause-value : goal.returns-else-customer-self-clause-value
returns-else-customer-self-clause-value c = node_of-above _ _ c.if-customer-self.false

pub returns-else-customer-self-clause-known : goal.returns-else-customer-self-clause-known
returns-else-customer-self-clause-known c = (omega arith, omega (arith, c.requires.1, c.args.self.now.low))
