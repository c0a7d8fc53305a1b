use Rattle.std.proofs.Common.{length, ◌==◌, ap, ◌∙◌}
use Rattle.tk_problem.proofs.WeightLines.{none_left}
use Rattle.tk_problem.proofs.weight_order.WeightCursor.is_done.Goals as goal

pub returns : goal.returns
returns c =
    let s = c.self.inside in
    none_left s.format s.n s.line s.item s.end c.self.invariant.3 ∙ ap (λ ps. length ps == 0) c.self.view_is
