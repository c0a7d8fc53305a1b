use Rattle.std.proofs.Common.{length, ap, ◌∙◌}
use Rattle.tk_problem.specs.WeightsSoFar.{Filling}
use Rattle.tk_problem.specs.WeightOrder.{entries}
use Rattle.tk_problem.proofs.PairWeights.{length-lower_of}
use Rattle.tk_problem.proofs.lower_weights.LowerWeights.into_weights.Goals as goal

pub returns-clause-value : goal.returns-clause-value
returns-clause-value c = ap (λ (s : Filling). s.weights) c.self.view_is

pub returns-clause-count : goal.returns-clause-count
returns-clause-count c = λ f n ws h.
    ap (λ (s : Filling). length s.weights) c.self.view_is ∙ ap length h.weights ∙ length-lower_of n (entries f n ws)
