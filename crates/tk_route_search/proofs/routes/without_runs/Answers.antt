use Rattle.std.proofs.Common.{◌≡◌, ◌∙◌, ◌<◌, ℕ, ℤ, ap, sym, subst, pos, List, [], length, nat_lt, Result, Ok, Err, IfOk}
use Rattle.std.proofs.Common.{FitsSigned, w64, arith, rules}
use Rattle.std.specs.Prelude.{All, if◌then◌else◌}
use Rattle.std.proofs.lemmas.Int.{to_z-of_z}
use Rattle.std.specs.declared.alloc.AllocError.{AllocError}
use Rattle.tk_distance.specs.Cities.{IsCity}
use Rattle.tk_near.specs.Near.{NearLists}
use Rattle.tk_routes.specs.Instance.{customer_count}
use Rattle.tk_rings.specs.RingRoutes.{ring_distance}
use Rattle.tk_solve.proofs.TourEntries.{cities_of_tour}
use Rattle.tk_tour.specs.Tour.{tour_length}
use Rattle.tk_route_search.specs.declared.outcome.Outcome.{Outcome}
use Rattle.tk_solve.proofs.Endings.{ends_whole}
use Rattle.tk_route_search.specs.Events.{Event, Asked}
use Rattle.tk_route_search.specs.Outcomes.{AreMade}
use Rattle.tk_route_search.specs.Tasks.{RouteTask, IsRing, copies_in, given_for, runs_of, task_of}
use Rattle.tk_route_search.specs.Watching.{WereShown, nothing}
use Rattle.tk_route_search.proofs.RunsSoFar.{kept_none}
use Rattle.tk_route_search.proofs.routes.without_runs.Goals as goal

pub length-requires-clause-cities : goal.length-requires-clause-cities
length-requires-clause-cities g c =
    subst (λ n. All (IsCity n) c.args.ring.now) (sym c.requires.size)
    (cities_of_tour (length c.args.ring.now) c.args.ring.now c.requires.ring.tour)

no_runs : (k runs : ℕ) → k < 2 → 0 ≡ (if nat_lt k 2 then 0 else runs)
no_runs k runs few = search rules

-- with one customer there are no runs
made_none : (task : RouteTask) (ring : List ℕ) (cost : ℤ) (Watched : List Event → Type 0) → Watched [] →
    customer_count task.instance < 2 → IsRing task.instance (length ring) ring →
    cost ≡ pos (tour_length (ring_distance task.instance (copies_in task.instance ring)) ring) →
    (r : Result Outcome AllocError) → IfOk r (λ o. o.reports.items ≡ []) → IfOk r (λ o. o.ring.items ≡ ring) →
    IfOk r (λ o. (o.cost ≡ cost) × (o.start ≡ cost)) → IfOk r (AreMade task ring Watched)
made_none task ring cost Watched watched few stands long (Ok kept) reports same costs =
    let near : NearLists = record { size = 0; width = 0; entries = [] } in
    record {
      near = near;
      candidates = λ two. absurd (omega (arith, two, few));
      runs = [];
      stop = [];
      ends = ends_whole Asked (runs_of task) 0 (no_runs (customer_count task.instance) task.runs few);
      made = kept_none task (given_for task (copies_in task.instance ring) near) ring kept stands reports same
          (costs.0 ∙ long) (costs.1 ∙ long);
      watched = watched;
    }
made_none task ring cost Watched watched few stands long (Err e) reports same costs = reports

pub returns : goal.returns
returns g c =
    let task : RouteTask = task_of c.args.cvrp.now c.args.options.now in
    let fits : FitsSigned w64 c.length.result = search (rules, c.length.type_inv) in
    let long = to_z-of_z w64 c.length.result fits ∙ c.length.ensures
    ∙ ap (λ d. pos (tour_length d c.args.ring.now)) c.requires.distance in
    made_none task c.args.ring.now _ (WereShown g.W.RouteWatch.shows c.args.watch.now c.args.watch.now) nothing
    c.requires.few c.requires.ring long c.new.result
    c.new.ensures.reports c.new.ensures.ring c.new.ensures.costs
