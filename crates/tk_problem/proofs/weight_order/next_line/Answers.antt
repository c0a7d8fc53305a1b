use Rattle.std.proofs.Common.{◌∙◌, arith}
use Rattle.tk_problem.proofs.WeightLines.{lines_more}
use Rattle.tk_problem.proofs.weight_order.next_line.Goals as goal

pub returns-then-first_item-end_item-clause-some : goal.returns-then-first_item-end_item-clause-some
returns-then-first_item-end_item-clause-some c = (
  c.loop-line-test.true,
  omega (arith, c.first_item.ensures, c.end_item.ensures.value),
  c.loop-line.invariant
      ∙ lines_more c.args.format c.args.n c.loop-line.line c.loop-line-test.true,
)
