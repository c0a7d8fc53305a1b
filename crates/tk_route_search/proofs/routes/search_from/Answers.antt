use Rattle.std.proofs.Common.{◌≡◌, ℕ, ◌+◌, FitsSigned, w64, List, Vec, Global, length, refl, sym, ap, ◌∙◌}
use Rattle.std.proofs.Common.{subst, arith, rules}
use Rattle.std.proofs.lemmas.Int.{to_z-of_z}
use Rattle.std.proofs.lemmas.List.{length-map}
use mir.Val.{to_z, of_z}
use Rattle.tk_lists.specs.Solution.{lists_of}
use Rattle.tk_rings.specs.RingRoutes.{AreRoutesOf, ring_distance, ring_of, ring_size}
use Rattle.tk_routes.specs.Instance.{Instance, customer_count}
use Rattle.tk_tour.specs.Tour.{IsTour, tour_length}
use Rattle.tk_route_search.specs.declared.routes.SolvedRoutes.{SolvedRoutes}
use Rattle.tk_route_search.specs.Outcomes.{AreMade}
use Rattle.tk_distance.specs.Tables.{table_distance-same, table_distance-swap}
use Rattle.tk_route_search.specs.Tasks.{IsRing, RouteTask, copies_in, task_of}
use Rattle.tk_route_search.specs.Watching.{WereShown}
use Rattle.tk_route_search.proofs.SearchResults.{IsReadOff, solved_of, sound_of}
use Rattle.tk_route_search.proofs.routes.search_from.Goals as goal

pub returns : goal.returns
returns g c =
    let task : RouteTask = task_of c.args.cvrp.now c.args.options.now in
    let i : Instance = task.instance in
    let start : List (List ℕ) = lists_of c.args.start.now in
    let kept = c.in_ok-outcome.outcome in
    let solved : SolvedRoutes = record {
      routes = c.in_ok-routes_of.field-0;
      cost = to_z w64 (of_z w64 kept.cost);
      start = to_z w64 (of_z w64 kept.start);
      start_routes = length c.args.start.now;
      candidates = c.args.candidates;
      runs = kept.reports;
    } in
    let ring : c.deref.result.now ≡ ring_of i start = c.deref.ensures.value ∙ c.in_ok-ring.ensures.ring in
    let watched = WereShown g.W.RouteWatch.shows c.args.watch.now c.run_all.new.watch in
    let made = subst (λ v. AreMade task v watched kept) ring c.in_ok-outcome.ensures in
    let count : length c.args.start.now ≡ length start =
    sym (length-map c.args.start.now (λ (r : Vec ℕ Global). r.items)) in
    let cost_fits : FitsSigned w64 kept.cost = search (rules, c.run_all.type_inv) in
    let start_fits : FitsSigned w64 kept.start = search (rules, c.run_all.type_inv) in
    let own : IsRing i (length c.in_ok-ring.ring.items) c.in_ok-ring.ring.items = record {
      tour = subst (λ n. IsTour n c.in_ok-ring.ring.items) (sym c.in_ok-ring.ensures.tour.0) c.in_ok-ring.ensures.tour;
      few = c.in_ok-ring.ensures.size;
      copies = omega (arith, c.in_ok-ring.ensures.tour.0);
      fits = c.in_ok-ring.ensures.fits;
    } in
    let off : IsReadOff i start kept solved = record {
      stands = subst (λ v. IsRing i (length v) v) c.in_ok-ring.ensures.ring own;
      symmetric = table_distance-swap c.args.cvrp.now.table;
      diagonal = table_distance-same c.args.cvrp.now.table;
      ring = subst (IsTour (ring_size i start)) c.in_ok-ring.ensures.ring c.in_ok-ring.ensures.tour;
      ring_cost = sym (ap (tour_length (ring_distance i (length start + 1))) c.in_ok-ring.ensures.ring)
          ∙ sym (ap (λ n. tour_length (ring_distance i (n + 1)) c.in_ok-ring.ring.items) count)
          ∙ c.in_ok-ring.ensures.cost;
      read = subst (λ v. AreRoutesOf (customer_count i) v (lists_of solved.routes.items)) c.deref-2.ensures.value
          c.in_ok-routes_of.ensures.read;
      valid = c.in_ok-routes_of.ensures.routes;
      routes_cost_is = c.in_ok-routes_of.ensures.cost
          ∙ ap (λ v. tour_length (ring_distance i (copies_in i v)) v) c.deref-2.ensures.value;
      cost = to_z-of_z w64 kept.cost cost_fits;
      start = to_z-of_z w64 kept.start start_fits;
      start_count = count;
      runs = refl;
    } in
    record {
      solved = solved_of task start watched kept solved made off c.requires.begins;
      sound = sound_of task start watched kept solved made off;
    }
