use Rattle.std.proofs.Common.{length, ◌==◌, ap}
use Rattle.tk_problem.specs.WeightsSoFar.{Filling}
use Rattle.tk_problem.proofs.lower_weights.LowerWeights.is_done.Goals as goal

pub returns : goal.returns
returns c = let view = ap (λ (s : Filling). length s.places == 0) c.self.view_is in cc
