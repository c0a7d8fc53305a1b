use Rattle.std.proofs.lemmas.Int.{ints}
use Rattle.std.proofs.Common.{arith}
use Rattle.tk_descent.proofs.probe.ProbeGains.gain3.Goals as goal

pub overflow_sub-result : goal.overflow_sub-result
overflow_sub-result g c = omega (arith, ints, g.met.M.Metric.distance_limit c.args.self.now.metric.now)

pub returns-clause-value : goal.returns-clause-value
returns-clause-value g c = omega (arith, ints, g.met.M.Metric.distance_limit c.args.self.now.metric.now)
