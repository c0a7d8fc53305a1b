use Rattle.std.proofs.Common.{refl, ◌∙◌, arith}
use Rattle.std.proofs.lemmas.Bool.{cond_below, cond_above}
use Rattle.tk_routes.specs.Instance.{customer_of}
use Rattle.tk_routes.proofs.CutLists.{mapped_on}
use Rattle.tk_routes.proofs.solving.merging.number_customers.Goals as goal
use Rattle.tk_routes.proofs.solving.merging.number_customers.Goals.{then-node-depot, else-node-depot}

pub loop-node-preserved : goal.loop-node-preserved
loop-node-preserved c =
    let n = c.loop-node in
    elim c.if-node-depot.branch [
      | then-node-depot w ↦ w.nodes-is
          ∙ mapped_on (customer_of c.args.depot) n.nodes c.args.nodes.now n.node-index _ 0 (omega arith) n.invariant
          (cond_below _ _ _ _ w.if-node-depot.true)
      | else-node-depot w ↦
          w.nodes-is ∙ mapped_on (customer_of c.args.depot) n.nodes c.args.nodes.now n.node-index _ 0 (omega arith)
          n.invariant (cond_above _ _ _ _ _ w.if-node-depot.false refl)
    ]
