use Rattle.std.proofs.Common.{sym}
use Rattle.tk_problem.proofs.WeightsSoFar.{next_pair, weight_read}
use Rattle.tk_problem.proofs.lower_weights.LowerWeights.weight.Goals as goal

pub returns : goal.returns
returns c = rw (sym c.self.view_is, c.place.ensures) (λ f n ws h.
    weight_read _ f n ws c.place.result c.index.result.now
    (next_pair _ f n ws c.place.result h c.place.ensures (rw (sym c.self.view_is) at c.requires.pair))
    (rw c.lower_index.ensures at c.index.ensures))
