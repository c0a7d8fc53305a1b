use Rattle.tk_descent.proofs.MovesOnTours.GainLaw.{gain_difference}
use Rattle.tk_descent.proofs.laws.gain_is_the_difference.Goals as goal

pub returns : goal.returns
returns g c = gain_difference (g.M.Metric.distance c.args.metric.now) (g.met.M.Metric.symmetric c.args.metric.now)
    c.args.before.now c.args.after.now c.args.or_segment c.args.offer.now c.requires
