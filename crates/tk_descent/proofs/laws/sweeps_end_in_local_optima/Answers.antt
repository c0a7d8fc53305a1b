use Rattle.tk_near.specs.Near.{near_of}
use Rattle.tk_descent.proofs.WakeExecutions.KeptTours.{sweeps_optimum}
use Rattle.tk_descent.proofs.laws.sweeps_end_in_local_optima.Goals as goal

pub returns : goal.returns
returns g c =
    let metric = c.args.metric.now in
    sweeps_optimum (g.M.Metric.distance metric) (near_of c.args.near.now) c.args.or_segment c.args.before.now
    c.requires.tour (g.met.M.Metric.symmetric metric, g.met.M.Metric.distance_limit metric) c.requires.most
    c.requires.sweeps
