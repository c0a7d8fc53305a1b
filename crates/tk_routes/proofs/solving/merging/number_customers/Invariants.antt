use Rattle.std.proofs.Common.{◌≡◌, ◌++◌, take, drop}
use Rattle.std.specs.Prelude.{map}
use Rattle.tk_routes.specs.Instance.{customer_of}
use Rattle.tk_routes.proofs.solving.merging.number_customers.Given as goal

abbrev pub invariant-loop-node : goal.invariant-loop-node
invariant-loop-node l = l.nodes ≡ map (customer_of l.depot) (take l.node-index l.initial.nodes)
    ++ drop l.node-index l.initial.nodes
