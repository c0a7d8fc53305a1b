use Rattle.std.proofs.Common.{arith}
use Rattle.std.proofs.lemmas.Int.{ints, to_z-of_z}
use Rattle.tk_ring_search.proofs.TrialResults.{slack_most}
use Rattle.tk_ring_search.proofs.trials.judging.slack.Goals as goal
use mir.Syntax.{w64}

pub returns-clause-limit : goal.returns-clause-limit
returns-clause-limit c =
    let low = slack_most c.from.result c.from-left.result c.from-2.result (omega arith) in
    let plain = to_z-of_z w64 c.args.best c.ranges.best in
    omega (arith, ints, low, plain, c.requires.best)
