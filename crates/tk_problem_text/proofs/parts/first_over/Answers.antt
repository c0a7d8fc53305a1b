use Rattle.std.proofs.Common.{◌∙◌, arith, ◌≤◌, get_or}
use Rattle.tk_problem_text.proofs.PartEnds.{over_step}
use Rattle.tk_problem_text.proofs.parts.first_over.Goals as goal

pub loop-load-preserved : goal.loop-load-preserved
loop-load-preserved c = λ few.
    let inv = c.loop-load.invariant few in
    let fits : get_or c.args.demand.now c.loop-load.load-index 0 ≤ c.args.capacity =
    omega (arith, c.if-load-capacity.false) in (
      omega (arith, inv.0, c.saturating_add-node.ensures, c.loop-load-test.true, few),
      inv.1
          ∙ over_step c.args.capacity _ c.loop-load.load-index c.args.demand.now c.loop-load-test.true fits,
    )
