use Rattle.std.proofs.Common.{sym, subst}
use Rattle.tk_ring_search.specs.Given.{given_of}
use Rattle.tk_ring_search.specs.SearchOf.{search_of}
use Rattle.tk_ring_search.specs.Searching.{IsBegun}
use Rattle.tk_route_search.specs.Tasks.{RouteTask, IsInput, task_of}
use Rattle.tk_route_search.proofs.RunFacts.{best_stands}
use Rattle.tk_route_search.proofs.Watched.{run_of}
use Rattle.tk_route_search.proofs.search.search_run.Goals as goal

pub make_trials-requires-clause-begun : goal.make_trials-requires-clause-begun
make_trials-requires-clause-begun g c =
    let task : RouteTask = task_of c.args.cvrp.now c.args.options.now in
    let given = given_of g.M.Metric c.args.terms in
    let ring = c.args.ring.now in
    let begun = search_of c.in_ok-search.search in
    let begins : IsBegun given ring begun =
    subst (λ v. IsBegun given v begun) c.in-Ok.ensures.order c.in_ok-search.ensures.begun in (
      ring,
      (
        subst (IsInput task ring) (sym begins.given_is) c.requires.input,
        subst (λ x. IsBegun x ring begun) (sym begins.given_is) begins,
      ),
    )

pub returns-clause-searched : goal.returns-clause-searched
returns-clause-searched g c =
    let given = given_of g.M.Metric c.args.terms in
    let begins : IsBegun given c.args.ring.now (search_of c.in_ok-search.search) =
    subst (λ v. IsBegun given v (search_of c.in_ok-search.search)) c.in-Ok.ensures.order c.in_ok-search.ensures.begun in
    let made = c.in_ok-make_trials.ensures.trials in (
      made.0,
      (
        record {
          begun = search_of c.in_ok-search.search;
          begins = begins;
          made = made.1.0;
        },
        made.1.1,
      ),
    )

pub returns-clause-ring : goal.returns-clause-ring
returns-clause-ring g c =
    let task : RouteTask = task_of c.args.cvrp.now c.args.options.now in
    let searched = (returns-clause-searched g c).1.0 in
    best_stands task (given_of g.M.Metric c.args.terms) c.args.ring.now c.requires.input searched.begins
    (run_of searched.made.trials)
