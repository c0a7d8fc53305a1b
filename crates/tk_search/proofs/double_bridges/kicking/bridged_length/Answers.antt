use Rattle.std.proofs.Common.{ℕ, ◌≤◌}
use Rattle.tk_problem.specs.declared.limits.TheConstants.{DISTANCE_LIMIT}
use Rattle.tk_search.specs.Cuts.{steps_in, steps_out}
use Rattle.tk_search.proofs.DoubleBridge.BridgeLength.{exchanged_fits, exchanged_is, few_in, few_out}
use Rattle.tk_search.proofs.double_bridges.kicking.bridged_length.Goals as goal

pub overflow_add-result : goal.overflow_add-result
overflow_add-result g c =
    let d = g.M.Metric.distance c.args.metric.now in
    let limit : (a b : ℕ) → d a b ≤ DISTANCE_LIMIT = g.met.M.Metric.distance_limit c.args.metric.now in
    exchanged_fits c.args.before _ _ (steps_out d c.args.ends) (steps_in d c.args.ends) c.requires.before.0
    c.requires.before.1 c.four_steps-out.ensures c.four_steps-put.ensures
    (few_out d c.args.ends limit) (few_in d c.args.ends limit)

pub returns : goal.returns
returns g c =
    let d = g.M.Metric.distance c.args.metric.now in
    let limit : (a b : ℕ) → d a b ≤ DISTANCE_LIMIT = g.met.M.Metric.distance_limit c.args.metric.now in
    exchanged_is c.args.before _ _ (steps_out d c.args.ends) (steps_in d c.args.ends) c.requires.before.0
    c.requires.before.1 c.four_steps-out.ensures c.four_steps-put.ensures
    (few_out d c.args.ends limit) (few_in d c.args.ends limit)
