use Rattle.std.proofs.Common.{◌≡◌, ℕ, ◌+◌, ◌-◌, ◌<◌, ◌≤◌, List, [], ◌∷◌, ◌++◌, map, pos, take, get_or, sym, ap}
use Rattle.std.proofs.Common.{◌∙◌, subst, arith, min, ℤ, FitsSigned, w64, true, false}
use Rattle.std.specs.Int.Signed.{lt_z}
use Rattle.std.specs.List.{All}
use Rattle.std.proofs.lemmas.Int.{ints, to_z-of_z}
use Rattle.std.proofs.lemmas.List.{get_or-map, map-append, take_more}
use Rattle.std.proofs.lemmas.List.Elements.{All-append, All-cons, All-nil}
use mir.Val.{to_z, of_z}
use Rattle.tk_distance.specs.Tables.{table_distance-same, table_distance-limit}
use Rattle.tk_descent.proofs.WakeExecutions.DescentSteps.{length_fits}
use Rattle.tk_routes.proofs.RouteCosts.{routes_cost-limit}
use Rattle.tk_routes.specs.declared.cvrp.Cvrp.{Cvrp}
use Rattle.tk_routes.specs.Cvrps.{instance_of}
use Rattle.tk_routes.specs.Instance.{Instance}
use Rattle.tk_routes.specs.RouteLists.{routes_of}
use Rattle.tk_routes.specs.Routes.{AreRoutes, routes_cost}
use Rattle.tk_route_search.specs.Ladder.{IsFirstCheapest, IsSavings, Savings, ladder}
use Rattle.tk_route_search.specs.Rungs.{savings_of}
use Rattle.tk_route_search.specs.declared.ladder.Rung.{Rung}
use Rattle.tk_route_search.proofs.FirstCheapest.{cheapest_of_one, cheapest_kept, cheapest_replaced}
use Rattle.tk_route_search.proofs.ladder.cheapest.Goals.{then-next-best, else-next-best}
use Rattle.tk_route_search.proofs.ladder.cheapest.Goals as goal

-- the cheapest of the routes tried so far
record IsBest (i : Instance) (tried : List Savings) (best : Rung) : Type 0 where
  first : IsFirstCheapest i tried (savings_of best)
  routes : AreRoutes i (routes_of best.routes)
  cost : best.cost ≡ pos (routes_cost i (routes_of best.routes))

-- costs, as the code compares them
same_test : (x y : ℤ) (a b : ℕ) → x ≡ pos a → y ≡ pos b → lt_z (pos a) (pos b) ≡ lt_z x y
same_test x y a b p q = ap (λ v. lt_z v (pos b)) (sym p) ∙ ap (λ v. lt_z x v) (sym q)

test_true : (a b : ℕ) → lt_z (pos a) (pos b) ≡ true → a < b
test_true a b test = grind (arith, ints, test)

test_false : (a b : ℕ) → lt_z (pos a) (pos b) ≡ false → b ≤ a
test_false a b test = grind (arith, ints, test)

-- they are replaced by cheaper ones
replaced : (i : Instance) (tried : List Savings) (best next : Rung) → IsBest i tried best →
    AreRoutes i (routes_of next.routes) → next.cost ≡ pos (routes_cost i (routes_of next.routes)) →
    (x y : ℤ) → x ≡ next.cost → y ≡ best.cost → lt_z x y ≡ true → IsBest i (tried ++ savings_of next ∷ []) next
replaced i tried best next is routes cost x y found old less = record {
  first = cheapest_replaced i tried (savings_of best) (savings_of next) is.first
      (test_true _ _ (same_test x y _ _ (found ∙ cost) (old ∙ is.cost) ∙ less));
  routes = routes;
  cost = cost;
}

kept : (i : Instance) (tried : List Savings) (best next : Rung) → IsBest i tried best →
    next.cost ≡ pos (routes_cost i (routes_of next.routes)) →
    (x y : ℤ) → x ≡ next.cost → y ≡ best.cost → lt_z x y ≡ false → IsBest i (tried ++ savings_of next ∷ []) best
kept i tried best next is cost x y found old le = record {
  first = cheapest_kept i tried (savings_of best) (savings_of next) is.first
      (test_false _ _ (same_test x y _ _ (found ∙ cost) (old ∙ is.cost) ∙ le));
  routes = is.routes;
  cost = is.cost;
}

-- the cost of routes in 64 bits
cost_is : (cvrp : Cvrp) (rung : Rung) → AreRoutes (instance_of cvrp) (routes_of rung.routes) →
    rung.cost ≡ pos (routes_cost (instance_of cvrp) (routes_of rung.routes)) →
    to_z w64 (of_z w64 rung.cost) ≡ rung.cost
cost_is cvrp rung valid is =
    let i = instance_of cvrp in
    let cost = routes_cost i (routes_of rung.routes) in
    let most = routes_cost-limit i (routes_of rung.routes) (table_distance-same cvrp.table)
    (table_distance-limit cvrp.table) in
    let fits : FitsSigned w64 (pos cost) = length_fits cost (omega (arith, most, valid.once.0, cvrp.few)) in
    to_z-of_z w64 rung.cost (subst (FitsSigned w64) (sym is) fits)

-- the length of the near lists of the next routes
next_length : (others k : ℕ) → k < 8 →
    get_or (ladder others) k 0 ≡ min (get_or (3 ∷ 5 ∷ 8 ∷ 12 ∷ 20 ∷ 32 ∷ 50 ∷ 100 ∷ []) k 0) others
next_length others k lt = get_or-map (λ v. min v others) (3 ∷ 5 ∷ 8 ∷ 12 ∷ 20 ∷ 32 ∷ 50 ∷ 100 ∷ []) k 0 0 lt

-- each length of the ladder is that of near lists
abbrev IsLength : ℕ → Type 0
IsLength v = v ≤ 100

more : (v : ℕ) (vs : List ℕ) → v ≤ 100 → All IsLength vs → All IsLength (v ∷ vs)
more v vs most all = All-cons IsLength v vs most all

are_lengths : All IsLength (3 ∷ 5 ∷ 8 ∷ 12 ∷ 20 ∷ 32 ∷ 50 ∷ 100 ∷ [])
are_lengths =
    more 3 (5 ∷ 8 ∷ 12 ∷ 20 ∷ 32 ∷ 50 ∷ 100 ∷ []) (omega arith)
    (more 5 (8 ∷ 12 ∷ 20 ∷ 32 ∷ 50 ∷ 100 ∷ []) (omega arith)
    (more 8 (12 ∷ 20 ∷ 32 ∷ 50 ∷ 100 ∷ []) (omega arith)
    (more 12 (20 ∷ 32 ∷ 50 ∷ 100 ∷ []) (omega arith)
    (more 20 (32 ∷ 50 ∷ 100 ∷ []) (omega arith)
    (more 32 (50 ∷ 100 ∷ []) (omega arith)
    (more 50 (100 ∷ []) (omega arith)
    (more 100 [] (omega arith) (All-nil IsLength))))))))

pub savings_over-requires-in-loop-k-clause-most : goal.savings_over-requires-in-loop-k-clause-most
savings_over-requires-in-loop-k-clause-most c = are_lengths c.loop-k.k 0 c.loop-k-test.true

pub loop-k-init : goal.loop-k-init
loop-k-init c =
    let i = instance_of c.args.cvrp.now in
    let s = savings_of c.in_ok-best.best in (
      s ∷ [],
      (
        All-cons (IsSavings i) s [] c.in_ok-best.ensures.savings (All-nil (IsSavings i)),
        ap (λ v. v ∷ []) c.in_ok-best.ensures.candidates,
        cheapest_of_one i s,
        c.in_ok-best.ensures.routes,
        c.in_ok-best.ensures.cost,
      ),
    )

pub loop-k-preserved : goal.loop-k-preserved
loop-k-preserved c =
    let i = instance_of c.args.cvrp.now in
    let others = i.size - 1 in
    let before = c.loop-k.invariant in
    let tried = before.0 in
    let next = c.in_ok-next.next in
    let s = savings_of next in
    let found = c.in_ok-next.ensures in
    let is : IsBest i tried c.loop-k.best = record { first = before.1.2; routes = before.1.3; cost = before.1.4 } in
    let new = cost_is c.args.cvrp.now next found.routes found.cost in
    let old = cost_is c.args.cvrp.now c.loop-k.best before.1.3 before.1.4 in
    let best : IsBest i (tried ++ s ∷ []) c.if-next-best.best =
    elim c.if-next-best.branch [
      | then-next-best w ↦ subst (IsBest i (tried ++ s ∷ [])) (sym w.best-is)
          (replaced i tried c.loop-k.best next is found.routes found.cost _ _ new old w.if-next-best.true)
      | else-next-best w ↦ subst (IsBest i (tried ++ s ∷ [])) (sym w.best-is)
          (kept i tried c.loop-k.best next is found.cost _ _ new old w.if-next-best.false)
    ] in
    let at : s.candidates ≡ get_or (ladder others) c.loop-k.k 0 =
    found.candidates ∙ sym (next_length others c.loop-k.k c.loop-k-test.true) in
    let lengths : map (λ (t : Savings). t.candidates) (tried ++ s ∷ []) ≡ take (c.loop-k.k + 1) (ladder others) =
    map-append (λ (t : Savings). t.candidates) tried (s ∷ [])
    ∙ ap (λ v. v ++ s.candidates ∷ []) before.1.1
    ∙ ap (λ v. take c.loop-k.k (ladder others) ++ v ∷ []) at
    ∙ sym (take_more (ladder others) c.loop-k.k 0 c.loop-k-test.true) in (
      tried ++ s ∷ [],
      (
        All-append (IsSavings i) tried (s ∷ []) before.1.0
            (All-cons (IsSavings i) s [] found.savings (All-nil (IsSavings i))),
        lengths,
        best.first,
        best.routes,
        best.cost,
      ),
    )
