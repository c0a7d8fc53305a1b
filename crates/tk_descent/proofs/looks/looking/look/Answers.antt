use Rattle.std.proofs.Common.{sym}
use Rattle.tk_near.specs.Near.{near_of}
use Rattle.tk_descent.proofs.MovesOnTours.Rounds.{round_of}
use Rattle.tk_descent.proofs.WakeExecutions.Machines.{none_improves, rules_nothing}
use Rattle.tk_descent.specs.Offers.{everything}
use Rattle.tk_descent.specs.WakeMachine.{each_cycle}
use Rattle.tk_descent.proofs.looks.looking.look.Goals as goal

pub returns-in-None-clause-none : goal.returns-in-None-clause-none
returns-in-None-clause-none g c =
    λ e. none_improves each_cycle everything (g.G.Gains.distance c.args.gains.now) (near_of c.args.near.now)
    c.args.or_segment c.args.city (g.S.TourStore.cities c.args.tour.now) rules_nothing
    (g.met.G.Gains.symmetric c.args.gains.now, g.met.G.Gains.distance_limit c.args.gains.now)
    (round_of _ (g.met.S.TourStore.is_tour c.args.tour.now)).distinct tt c.requires.most.1
    (sym c.in-None.ensures.searched.found)

pub returns-in-Some-clause-looked : goal.returns-in-Some-clause-looked
returns-in-Some-clause-looked g c =
    record { first = c.in-Some.ensures.searched.found; tests = c.in-Some.ensures.searched.tests }

pub returns-in-Some-clause-none : goal.returns-in-Some-clause-none
returns-in-Some-clause-none g c = λ e. cc
