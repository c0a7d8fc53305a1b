use Rattle.std.proofs.Common.{◌≡◌, ◌*◌, ◌/◌, replicate, ap, ◌∙◌}
use Rattle.tk_problem.proofs.LowerTriangle.{pairs}
use Rattle.tk_problem.proofs.WeightsSoFar.{so_far_none, indices_within, zeros_small}
use Rattle.tk_problem.proofs.lower_weights.LowerWeights.new.Goals as goal
use Rattle.tk_problem.proofs.lower_weights.LowerWeights.new.Goals.{After-new-places}

zeros : (c : After-new-places) → c.in_ok-weights.weights.items ≡ replicate (pairs c.args.n) 0
zeros c = c.in_ok-weights.ensures.items_if_clones_equal (λ y e. e)
    ∙ ap (λ k. replicate (c.args.n * k / 2) 0) c.saturating_sub.ensures

pub invariant_of-result : goal.invariant_of-result
invariant_of-result c =
    let none = zeros (goal.at.invariant_of-result c).After-new-places in (
      indices_within c.args.format c.args.n c.new-places.result _ c.new-places.ensures.places none,
      zeros_small (pairs c.args.n) _ none,
    )

pub returns : goal.returns
returns c =
    so_far_none c.args.format c.args.n c.new-places.result _ c.new-places.ensures.places
    (zeros (goal.at.returns c).After-new-places)
