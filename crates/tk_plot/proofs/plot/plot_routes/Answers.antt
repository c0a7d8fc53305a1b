use Rattle.std.proofs.Common.{refl, rules, true}
use Rattle.std.specs.Prelude.{map}
use Rattle.tk_lists.specs.Solution.{as_solution}
use Rattle.tk_problem_text.specs.ProblemOf.{problem_is}
use Rattle.tk_routes.specs.Cvrps.{instance_of}
use Rattle.tk_routes.specs.RouteVerdicts.{IsRouteVerdict}
use Rattle.tk_engines.proofs.ReadTables.{some_instance_read}
use Rattle.tk_plot.specs.declared.plotted.Plotted.TheVariants as plotted
use Rattle.tk_engines.specs.Engine.{AreRead, HasRead, IsGiven}
use Rattle.tk_plot.specs.Plot.{IsRouteOutput, ReadsClaim, RoutesClaim, WritesOutput, plot_task}
use Rattle.tk_plot.proofs.DrawnOutcomes.{routed_of}
use Rattle.tk_engines.specs.declared.fault.Fault.TheVariants as faults
use Rattle.tk_plot.proofs.ClaimsPlotted.{unwritten}
use Rattle.tk_engines.proofs.TextsRead.{is_read}
use Rattle.tk_plot.proofs.plot.plot_routes.Given.{Over}
use Rattle.tk_plot.proofs.plot.plot_routes.Goals as goal
use Rattle.tk_plot.proofs.plot.plot_routes.Goals.{In-Ok, After-show_routes}

-- the problem fits, and the routes that were read are claimed of it
claimed : (g : Over) (c : In-Ok g) →
    AreRead (plot_task c.args.form.now c.args.placed.now.places true) (HasRead (problem_is c.args.placed.now.problem))
    (ReadsClaim true g.C.Source c.args.claim.now c.read_solution.new.source (problem_is c.args.placed.now.problem))
    (problem_is c.args.placed.now.problem) (RoutesClaim (as_solution c.in-Ok.solution))
claimed g c = record {
  is_problem = refl;
  fits = c.requires.view.fits;
  is_second = (
    refl,
    routed_of c.args.placed.now.problem.routing _ c.requires.instance.routing,
    is_read c.in-Ok.ensures.reads,
  );
}

-- the verdict on them is given, and what goes with it is written
given : (g : Over) (c : After-show_routes g) →
    IsGiven (plot_task c.args.form.now c.args.placed.now.places true) (HasRead (problem_is c.args.placed.now.problem))
    (ReadsClaim true g.C.Source c.args.claim.now c.read_solution.new.source)
    (WritesOutput g.W.Sink g.T.Sink c.args.out.now c.show_routes.new.out c.args.reported.now c.show_routes.new.reported
    c.show_routes.result) (plotted.Routes c.in-Ok-check_routes.verdict)
given g c =
    let p = c.args.placed.now.problem in
    let routes = map (λ r. r.items) c.in-Ok.solution.routes.items in
    let verdict = c.in-Ok-check_routes.verdict in
    let shown = c.show_routes.ensures.text in
    record {
      problem = problem_is p;
      second = RoutesClaim (as_solution c.in-Ok.solution);
      text = shown.0;
      read = claimed g (goal.at.After-show_routes g c).In-Ok;
      together = refl;
      gives = some_instance_read p (instance_of c.args.cvrp.now)
          (λ i. IsRouteVerdict i routes c.in-Ok.solution.cost verdict
          × IsRouteOutput c.args.form.now c.args.placed.now.places (problem_is p) i routes verdict shown.0)
          c.requires.instance
          (c.in-Ok-check_routes.ensures, shown.1.0);
      written = shown.1.1;
    }

pub returns-in-Err : goal.returns-in-Err
returns-in-Err g c = unwritten (faults.Solution c.in-Err.fault) tt (search rules)

pub returns-in_default : goal.returns-in_default
returns-in_default g c =
    unwritten faults.NoMemory tt (
      problem_is c.args.placed.now.problem,
      RoutesClaim (as_solution c.in-Ok.solution),
      claimed g (goal.at.returns-in_default g c).In-Ok,
      refl,
    )

pub returns-in-Ok-show_routes : goal.returns-in-Ok-show_routes
returns-in-Ok-show_routes g c = record {
  ends = rw c.in-Ok-show_routes.is at (given g (goal.at.returns-in-Ok-show_routes g c).After-show_routes);
  quiet = tt;
  failed = tt;
}

pub returns : goal.returns
returns g c = record {
  ends = (
    plotted.Routes c.in-Ok-check_routes.verdict,
    rw c.in-Err-show_routes.is at (given g (goal.at.returns g c).After-show_routes),
  );
  quiet = tt;
  failed = c.in-Err-show_routes.ensures.failed;
}
