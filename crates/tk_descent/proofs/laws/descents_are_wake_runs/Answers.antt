use Rattle.tk_near.specs.Near.{near_of}
use Rattle.tk_descent.proofs.MovesOnTours.Rounds.{round_of}
use Rattle.tk_descent.proofs.WakeExecutions.KeptTours.{run_looks}
use Rattle.tk_descent.proofs.WakeExecutions.Machines.{run_wakes, rules_nothing}
use Rattle.tk_descent.specs.Offers.{everything}
use Rattle.tk_descent.specs.WakeMachine.{each_cycle}
use Rattle.tk_descent.proofs.laws.descents_are_wake_runs.Goals as goal

pub returns-clause-wakes : goal.returns-clause-wakes
returns-clause-wakes g c =
    let metric = c.args.metric.now in
    run_wakes each_cycle everything (g.M.Metric.distance metric) (near_of c.args.near.now) c.args.or_segment
    c.args.before.now c.args.awake.now rules_nothing
    (g.met.M.Metric.symmetric metric, g.met.M.Metric.distance_limit metric) c.requires.most
    (round_of _ c.requires.tour).distinct tt c.requires.distinct c.requires.run

pub returns-clause-looks : goal.returns-clause-looks
returns-clause-looks g c = run_looks (g.M.Metric.distance c.args.metric.now) (near_of c.args.near.now) c.args.or_segment
    c.args.before.now c.requires.run
