use Rattle.std.proofs.Common.{refl}
use Rattle.tk_problem_text.specs.ProblemOf.{problem_is}
use Rattle.tk_engines.specs.Engine.{AtWrite, BeforeSecond, HasRead, IsGiven, UnlessWrite}
use Rattle.tk_plot.specs.Plot.{Drawn, Nothing, ReadsClaim, WritesOutput, plot_task}
use Rattle.tk_plot.specs.declared.plotted.Plotted.TheVariants as plotted
use Rattle.tk_plot.proofs.ClaimsPlotted.{undrawn, undrawn_stops}
use Rattle.tk_engines.proofs.EngineEnds.{second_reached}
use Rattle.tk_plot.proofs.plot.plot_problem.Given.{Over}
use Rattle.tk_plot.proofs.plot.plot_problem.Goals as goal
use Rattle.tk_plot.proofs.plot.plot_problem.Goals.{After-draw}

-- where nothing is claimed, the cities are drawn
drawn : (g : Over) (c : After-draw g) →
    IsGiven (plot_task c.args.form.now c.args.placed.now.places c.args.has_claim)
    (HasRead (problem_is c.args.placed.now.problem))
    (ReadsClaim c.args.has_claim g.C.Source c.args.claim.now c.args.claim.now)
    (WritesOutput g.W.Sink g.T.Sink c.args.out.now c.draw.new.out c.args.reported.now c.args.reported.now c.draw.result)
    plotted.Cities
drawn g c = record {
  problem = problem_is c.args.placed.now.problem;
  second = Nothing;
  text = Drawn c.draw.ensures.text.0;
  read = record {
    is_problem = refl;
    fits = c.in-Ok.ensures.view.fits;
    is_second = (c.if-not-has_claim.true, (refl, refl));
  };
  together = refl;
  gives = c.draw.ensures.text.1.0;
  written = (c.draw.ensures.text.1.1, (refl, refl));
}

pub returns-in-Err-clause-ends : goal.returns-in-Err-clause-ends
returns-in-Err-clause-ends g c =
    undrawn_stops g.C.Source g.W.Sink g.T.Sink c.args.form.now c.args.placed.now.places c.args.has_claim
    (problem_is c.args.placed.now.problem) c.args.claim.now c.args.out.now c.args.reported.now c.in-Err.fault
    c.in-Err.ensures.misfit

pub returns-in-Err-clause-quiet : goal.returns-in-Err-clause-quiet
returns-in-Err-clause-quiet g c =
    undrawn c.args.form.now c.args.placed.now.places (problem_is c.args.placed.now.problem) c.in-Err.fault
    (UnlessWrite _) c.in-Err.ensures.misfit ((refl, refl), (refl, refl)) ((refl, refl), (refl, refl))

pub returns-in-Err-clause-failed : goal.returns-in-Err-clause-failed
returns-in-Err-clause-failed g c =
    undrawn c.args.form.now c.args.placed.now.places (problem_is c.args.placed.now.problem) c.in-Err.fault
    (AtWrite _) c.in-Err.ensures.misfit tt tt

pub returns-in-Err-clause-unread : goal.returns-in-Err-clause-unread
returns-in-Err-clause-unread g c =
    undrawn c.args.form.now c.args.placed.now.places (problem_is c.args.placed.now.problem) c.in-Err.fault
    (BeforeSecond _) c.in-Err.ensures.misfit (refl, refl) (refl, refl)

pub returns-in_default-clause-ends : goal.returns-in_default-clause-ends
returns-in_default-clause-ends g c =
    rw c.in_default.is at (drawn g (goal.at.returns-in_default-clause-ends g c).After-draw)

pub returns-then-not-has_claim-clause-ends : goal.returns-then-not-has_claim-clause-ends
returns-then-not-has_claim-clause-ends g c =
    (plotted.Cities, rw c.in-Err-draw.is at (drawn g (goal.at.returns-then-not-has_claim-clause-ends g c).After-draw))

pub returns-clause-ends : goal.returns-clause-ends
returns-clause-ends g c = rw (← c.if-not-has_claim.false) at c.plot_claim.ensures.ends

pub returns-clause-unread : goal.returns-clause-unread
returns-clause-unread g c =
    second_reached _ _ _ (WritesOutput g.W.Sink g.T.Sink c.args.out.now c.plot_claim.new.out c.args.reported.now
    c.plot_claim.new.reported) _ c.in-Ok.ensures.view.fits c.plot_claim.result c.plot_claim.ensures.ends
