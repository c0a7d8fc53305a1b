use Rattle.std.proofs.Common.{◌≡◌, ◌+◌, ◌*◌, ◌/◌, ◌≤◌, ◌∙◌, length, sym, ap, subst, arith, List, ℕ, pos}
use Rattle.std.specs.Prelude.{min}
use Rattle.tk_distance.specs.Tables.{table_distance-swap}
use Rattle.tk_tour.specs.ArrayTours.{order_of}
use Rattle.tk_tour.specs.Tour.{IsTour, tour_length}
use Rattle.tk_descent.specs.Awake.{one_to}
use Rattle.tk_routes.specs.Cvrps.{instance_of}
use Rattle.tk_routes.specs.Instance.{Instance}
use Rattle.tk_routes.specs.Routes.{route_nodes, route_length}
use Rattle.tk_routes.specs.ImprovedRoutes.{IsReadOff, place_distance}
use Rattle.tk_routes.proofs.Improving.DescendedRoutes.{IsImproved-read, IsReadOff-cycle, tests_within}
use Rattle.tk_routes.proofs.Improving.ReadOffs.{IsTour-cycle, IsPermutation-read, route_length-read}
use Rattle.tk_routes.proofs.Improving.ReadOffs.{route_length-places}
use Rattle.tk_routes.proofs.solving.one_route.improve_over.Goals as goal

pub read_off-requires-clause-tour : goal.read_off-requires-clause-tour
read_off-requires-clause-tour g c =
    let tour : IsTour (length c.args.route.now + 1) (order_of c.in_ok-tour.tour) =
    subst (λ (v : ℕ). IsTour v (order_of c.in_ok-tour.tour)) c.requires.size c.in_ok-tour.ensures.tour in
    subst (λ (v : List ℕ). IsTour (length c.args.route.now + 1) v) (sym c.deref.ensures.value)
    (IsTour-cycle (length c.args.route.now + 1) (order_of c.in_ok-tour.tour) c.in_ok-cycle.cycle.items tour
    c.in_ok-cycle.ensures.printed.cycle)

pub returns : goal.returns
returns g c =
    let i : Instance = instance_of c.args.cvrp.now in
    let route : List ℕ = c.args.route.now in
    let new : List ℕ = c.in_ok-read_off.field-0.items in
    let T : List ℕ = order_of c.in_ok-tour.tour in
    let report = c.in_ok-tour.report in
    let made = c.in_ok-tour.ensures in
    let size = c.requires.size in
    let tour : IsTour (length route + 1) T = subst (λ (v : ℕ). IsTour v T) size made.tour in
    let printed = c.in_ok-cycle.ensures.printed in
    let off : IsReadOff route c.in_ok-cycle.cycle.items new =
    subst (λ (v : List ℕ). IsReadOff route v new) c.deref.ensures.value c.in_ok-read_off.ensures in
    let read : IsReadOff route T new = IsReadOff-cycle route T c.in_ok-cycle.cycle.items new printed.cycle off in
    let given : ℕ → ℕ → ℕ = g.M.Metric.distance c.args.metric.now in
    let distances : given ≡ place_distance i.distance (route_nodes i route) = c.requires.distances in
    let before : route_length i route ≡ tour_length given (one_to (g.M.Metric.size_of c.args.metric.now)) =
    route_length-places i route ∙ ap (λ (d : ℕ → ℕ → ℕ). tour_length d (one_to (length route + 1))) (sym distances)
    ∙ ap (λ (n : ℕ). tour_length given (one_to n)) (sym size) in
    let after : route_length i new ≡ tour_length given T =
    route_length-read i route T new (table_distance-swap c.args.cvrp.now.table) read tour
    ∙ ap (λ (d : ℕ → ℕ → ℕ). tour_length d T) (sym distances) in
    let width : c.in_ok-near.near.width ≡ min c.args.max_candidates (length route) = c.in_ok-near.ensures.width
    ∙ c.min.ensures in
    record {
      improved = IsImproved-read i c.args.max_candidates c.args.m route new T given
          (g.M.Metric.size_of c.args.metric.now)
          c.in_ok-near.near report.looks report.moves report.tests report.swaps distances size
          c.in_ok-near.ensures.size width c.in_ok-near.ensures.near made.pass made.flipped made.swaps
          read;
      same = IsPermutation-read route T new read tour;
      before = made.before ∙ ap pos (sym before);
      after = made.after ∙ ap pos (sym after);
      moves = omega (arith, made.moves, after, before);
      tests = tests_within c.args.m c.in_ok-near.near.width c.args.max_candidates
          (g.M.Metric.size_of c.args.metric.now) (length route + 1) report.moves report.tests (omega (arith, width))
          size made.tests;
      swaps = subst (λ (v : ℕ). report.swaps ≤ 3 * (v / 4) * report.moves) size made.swaps;
    }
