use Rattle.std.proofs.Common.{ap, refl, rules, true}
use Rattle.tk_problem_text.specs.ProblemOf.{problem_is, routing_is}
use Rattle.tk_plot.specs.declared.plotted.Plotted.TheVariants as plotted
use Rattle.tk_engines.specs.Engine.{AreRead, HasRead, IsGiven}
use Rattle.tk_plot.specs.Plot.{ReadsClaim, TourClaim, WritesOutput, plot_task}
use Rattle.tk_engines.specs.declared.fault.Fault.TheVariants as faults
use Rattle.tk_plot.proofs.ClaimsPlotted.{unwritten}
use Rattle.tk_engines.proofs.TextsRead.{is_read}
use Rattle.tk_plot.proofs.plot.plot_tour.Given.{Over}
use Rattle.tk_plot.proofs.plot.plot_tour.Goals as goal
use Rattle.tk_plot.proofs.plot.plot_tour.Goals.{In-Ok, After-show_tour}

-- the problem fits, and the tour that was read is claimed of it
claimed : (g : Over) (c : In-Ok g) →
    AreRead (plot_task c.args.form.now c.args.placed.now.places true) (HasRead (problem_is c.args.placed.now.problem))
    (ReadsClaim true g.C.Source c.args.claim.now c.read_tour.new.source (problem_is c.args.placed.now.problem))
    (problem_is c.args.placed.now.problem) (TourClaim c.in-Ok.tour.cities.items)
claimed g c = record {
  is_problem = refl;
  fits = c.requires.view.fits;
  is_second = (refl, ap routing_is c.requires.tsp, is_read c.in-Ok.ensures.reads);
}

-- the verdict on it is given, and what goes with it is written
given : (g : Over) (c : After-show_tour g) →
    IsGiven (plot_task c.args.form.now c.args.placed.now.places true) (HasRead (problem_is c.args.placed.now.problem))
    (ReadsClaim true g.C.Source c.args.claim.now c.read_tour.new.source)
    (WritesOutput g.W.Sink g.T.Sink c.args.out.now c.show_tour.new.out c.args.reported.now c.show_tour.new.reported
    c.show_tour.result) (plotted.Tour c.in-Ok-check.verdict)
given g c =
    let shown = rw c.as_slice-cities.ensures.value at c.show_tour.ensures.text in
    record {
      problem = problem_is c.args.placed.now.problem;
      second = TourClaim c.in-Ok.tour.cities.items;
      text = shown.0;
      read = claimed g (goal.at.After-show_tour g c).In-Ok;
      together = refl;
      gives = (rw c.as_slice-cities.ensures.value at c.in-Ok-check.ensures, shown.1.0);
      written = shown.1.1;
    }

pub returns-in-Err : goal.returns-in-Err
returns-in-Err g c = unwritten (faults.Tour c.in-Err.fault) tt (search rules)

pub returns-in_default : goal.returns-in_default
returns-in_default g c =
    unwritten faults.NoMemory tt (
      problem_is c.args.placed.now.problem,
      TourClaim c.in-Ok.tour.cities.items,
      claimed g (goal.at.returns-in_default g c).In-Ok,
      refl,
    )

pub returns-in-Ok-show_tour : goal.returns-in-Ok-show_tour
returns-in-Ok-show_tour g c = record {
  ends = rw c.in-Ok-show_tour.is at (given g (goal.at.returns-in-Ok-show_tour g c).After-show_tour);
  quiet = tt;
  failed = tt;
}

pub returns : goal.returns
returns g c = record {
  ends = (
    plotted.Tour c.in-Ok-check.verdict,
    rw c.in-Err-show_tour.is at (given g (goal.at.returns g c).After-show_tour),
  );
  quiet = tt;
  failed = c.in-Err-show_tour.ensures.failed;
}
