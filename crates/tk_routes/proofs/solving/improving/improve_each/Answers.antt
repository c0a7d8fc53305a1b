use Rattle.std.proofs.Common.{◌≡◌, ◌+◌, ◌<◌, ◌≤◌, ◌∙◌, ℕ, List, [], Vec, Global, length, get_or, set, sym, ap}
use Rattle.std.proofs.Common.{subst, arith, pos, rules}
use Rattle.std.specs.Prelude.{map}
use Rattle.std.proofs.lemmas.Int.{ints}
use Rattle.std.proofs.lemmas.List.{get_or-map, length-map, map-set}
use Rattle.tk_distance.specs.Tables.{table_distance-same, table_distance-limit}
use Rattle.tk_lists.specs.Solution.{lists_of}
use Rattle.tk_routes.specs.Cvrps.{instance_of}
use Rattle.tk_routes.specs.Instance.{Instance}
use Rattle.tk_routes.specs.Routes.{route_length, routes_cost}
use Rattle.tk_routes.proofs.RouteCosts.{route_length-limit}
use Rattle.tk_routes.proofs.Improving.Exchanged.{AreServedOnce-routes}
use Rattle.tk_routes.proofs.Improving.ImprovedSteps.{IsImprovedTo, IsImprovedTo-none, IsImprovedTo-more, next_known}
use Rattle.tk_routes.proofs.Improving.ImprovedSteps.{small_counts, cost_step, improved_all, improved_part}
use Rattle.tk_routes.proofs.Improving.ImprovedSteps.{tested_all, tests_by_fall}
use Rattle.tk_routes.proofs.solving.improving.improve_each.Goals as goal
use Rattle.tk_routes.proofs.solving.improving.improve_each.Goals.{In_ok-customers}

-- the list at an index is the one among the lists of customers
at_place : (lists : List (Vec ℕ Global)) (k : ℕ) (list : Vec ℕ Global) (route : List ℕ) → k < length lists →
    route ≡ (get_or lists k list).items → (k < length (lists_of lists)) × (route ≡ get_or (lists_of lists) k [])
at_place lists k list route lt is =
    let items = λ (r : Vec ℕ Global). r.items in
    (omega (arith, lt, length-map lists items), is ∙ sym (get_or-map items lists k list [] lt))

-- one more list is improved, and the counters do not overflow
stepped : (c : In_ok-customers) →
    IsImprovedTo (instance_of c.args.cvrp.now) c.args.max_candidates c.args.m (lists_of c.args.lists.now)
    (lists_of (set c.loop-k.lists c.loop-k.k c.in_ok-customers.customers)) (c.loop-k.k + 1)
    (c.loop-k.moves + c.in_ok-customers.report.moves) (c.loop-k.swaps + c.in_ok-customers.report.swaps)
    (c.loop-k.tests + c.in_ok-customers.report.tests)
    × (c.loop-k.swaps + c.in_ok-customers.report.swaps ≤ 150000000000000000)
    × (c.loop-k.tests + c.in_ok-customers.report.tests ≤ 300000000000000000)
stepped c =
    let cvrp = c.args.cvrp.now in
    let i : Instance = instance_of cvrp in
    let k = c.args.max_candidates in
    let m = c.args.m in
    let olds = lists_of c.args.lists.now in
    let n = c.loop-k in
    let r = c.in_ok-customers in
    let at = at_place n.lists n.k c.index-lists-k.result c.deref.result.now
    (omega (arith, c.loop-k-test.true, n.auto.lists)) c.deref.ensures.value in
    let next = IsImprovedTo-more n.invariant.improved at.0 at.1 cvrp.few r.ensures in
    let small = small_counts next cvrp.few c.requires.candidates.1 c.requires.most.1 (table_distance-same cvrp.table)
    (table_distance-limit cvrp.table) in (
      subst (λ (v : List (List ℕ)). IsImprovedTo i k m olds v (n.k + 1) (n.moves + r.report.moves)
          (n.swaps + r.report.swaps) (n.tests + r.report.tests))
          (sym (map-set (λ (list : Vec ℕ Global). list.items) n.lists n.k r.customers)) next,
      small.2,
      small.3,
    )

pub cost_of-before-requires : goal.cost_of-before-requires
cost_of-before-requires c =
    AreServedOnce-routes (instance_of c.args.cvrp.now) (map (λ (r : Vec ℕ Global). r.items) c.args.lists.now)
    c.requires.routes

pub loop-k-init : goal.loop-k-init
loop-k-init c =
    let cvrp = c.args.cvrp.now in
    let small =
    small_counts (IsImprovedTo-none {k = c.args.max_candidates} {m = c.args.m} c.requires.routes) cvrp.few
    c.requires.candidates.1 c.requires.most.1 (table_distance-same cvrp.table) (table_distance-limit cvrp.table) in
    record {
      before = omega (arith, ints, c.cost_of-before.ensures, small.0);
      after = omega (arith, ints, c.cost_of-before.ensures, small.0);
      improved = IsImprovedTo-none c.requires.routes;
    }

pub improve_route-requires : goal.improve_route-requires
improve_route-requires c =
    let n = c.loop-k in
    let at = at_place n.lists n.k c.index-lists-k.result c.deref.result.now
    (omega (arith, c.loop-k-test.true, n.auto.lists)) c.deref.ensures.value in
    let known = next_known n.invariant.improved at.0 at.1 in
    record {
      known = known.0;
      some = known.1;
      few = omega (arith, known.2, c.args.cvrp.now.few);
      candidates = c.requires.candidates;
      most = c.requires.most;
    }

pub overflow_add-tests : goal.overflow_add-tests
overflow_add-tests c = omega (arith, (stepped (goal.at.overflow_add-tests c).In_ok-customers).2)

pub overflow_add-swaps : goal.overflow_add-swaps
overflow_add-swaps c = omega (arith, (stepped (goal.at.overflow_add-swaps c).In_ok-customers).1)

pub loop-k-preserved : goal.loop-k-preserved
loop-k-preserved c =
    let cvrp = c.args.cvrp.now in
    let i : Instance = instance_of cvrp in
    let n = c.loop-k in
    let route = c.deref.result.now in
    let r = c.in_ok-customers in
    let lt : n.k < length n.lists = omega (arith, c.loop-k-test.true, n.auto.lists) in
    let at = at_place n.lists n.k c.index-lists-k.result route lt c.deref.ensures.value in
    let moved : lists_of (set n.lists n.k r.customers) ≡ set (lists_of n.lists) n.k r.customers.items =
    map-set (λ (list : Vec ℕ Global). list.items) n.lists n.k r.customers in
    let cost = cost_step n.invariant.improved at.0 at.1 r.customers.items in
    let known = next_known n.invariant.improved at.0 at.1 in
    let long = route_length-limit i route (table_distance-same cvrp.table) (table_distance-limit cvrp.table) in
    let old : route_length i route ≤ 40000000000000 = omega (arith, long, known.2, cvrp.few) in
    let gain : route_length i r.customers.items ≤ route_length i route = omega (arith, r.ensures.moves) in
    let small = small_counts n.invariant.improved cvrp.few c.requires.candidates.1 c.requires.most.1
    (table_distance-same cvrp.table) (table_distance-limit cvrp.table) in
    let most : routes_cost i (lists_of n.lists) ≤ 40000000000000 = omega (arith, n.invariant.improved.cost, small.0) in
    record {
      before = n.invariant.before;
      after =
          omega (arith, ints, n.invariant.after, n.after-is, r.ensures.before, r.ensures.after, old, gain, most, cost)
          ∙ ap (λ (v : List (List ℕ)). pos (routes_cost i v)) (sym moved);
      improved = (stepped (goal.at.loop-k-preserved c).In_ok-customers).0;
    }

pub returns-in_err-customers-clause-part : goal.returns-in_err-customers-clause-part
returns-in_err-customers-clause-part c = let part = improved_part c.loop-k.invariant.improved in search rules

pub returns-clause-improved : goal.returns-clause-improved
returns-clause-improved c =
    let n = c.loop-k in
    let past : length (lists_of n.lists) ≤ n.k =
    omega (arith, c.loop-k-test.false, n.auto.lists, length-map n.lists (λ (list : Vec ℕ Global). list.items)) in
    record {
      improved = improved_all n.invariant.improved past;
      before = search rules;
      after = search rules;
      moves = n.invariant.improved.cost;
      tests = tested_all n.invariant.improved past;
    }

pub returns-clause-headline : goal.returns-clause-headline
returns-clause-headline c = tests_by_fall (returns-clause-improved c)
