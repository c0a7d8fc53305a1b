use Rattle.std.proofs.Common.{◌≡◌, ◌+◌, ◌≤◌, ℕ, drop, List, [], length, arith, sym, ap, ◌∙◌, subst, Vec, Global}
use Rattle.std.proofs.Common.{Bool, true, false, eqb}
use Rattle.std.specs.List.{All}
use Rattle.std.proofs.lemmas.List.Elements.{All-nil}
use Rattle.std.specs.List.Sorted.{IsPermutation}
use Rattle.std.proofs.lemmas.Bool.{eqb-true, eqb-false}
use Rattle.std.proofs.lemmas.List.{drop_all, length-map, nil_from_length}
use Rattle.std.proofs.lemmas.List.Sorted.{length_permutation}
use Rattle.tk_distance.specs.Tables.{table_distance-same, table_distance-swap}
use Rattle.tk_lists.specs.Solution.{lists_of}
use Rattle.tk_near.specs.Keeping.{Climbing, insert_by}
use Rattle.tk_routes.specs.Cvrps.{instance_of}
use Rattle.tk_routes.specs.Instance.{customer_count}
use Rattle.tk_routes.specs.RouteVerdicts.{filled_of}
use Rattle.tk_rings.specs.RingRoutes.{behind_copy, first_of, paths_from, paths_of, turned_route}
use Rattle.tk_rings.proofs.RoutesRead.{AreRoutes-read, few_read, cost_read}
use Rattle.tk_rings.proofs.RoutesRead.{read_permutation, read_climbing, in_order, read_on, turned_all}
use Rattle.tk_rings.proofs.RoutesRead.{read_low, read_some, read_none, filled-insert, length-turned_route}
use Rattle.tk_rings.proofs.reading.routes_of.Goals as goal
use Rattle.tk_rings.proofs.reading.routes_of.Goals.{then-c-customers+in_ok-push}
use Rattle.tk_rings.proofs.reading.routes_of.Goals.{else-c-customers+then-not-is_empty+in_ok-place}
use Rattle.tk_rings.proofs.reading.routes_of.Goals.{else-c-customers+else-not-is_empty, After-drop-elements-2}

some_of : (v : Vec ℕ Global) (r : Bool) → r ≡ eqb v.len 0 → r ≡ false → 1 ≤ length v.items
some_of v r e h = let ne : eqb v.len 0 ≡ false = sym e ∙ h in omega (arith, v.ok.0, eqb-false v.len 0 ne)

none_of : (v : Vec ℕ Global) (r : Bool) → r ≡ eqb v.len 0 → r ≡ true → v.items ≡ []
none_of v r e h = nil_from_length v.items (omega (arith, v.ok.0, eqb-true v.len 0 (sym e ∙ h)))

pub loop-c-init : goal.loop-c-init
loop-c-init c = record {
  read =
      ap (λ (v : List (Vec ℕ Global)). read_on c.customers-customers.result (lists_of v) c.new-route.result.items
      c.deref-c-items.result.now) c.new-routes.ensures.items
      ∙ ap (λ (v : List ℕ). read_on c.customers-customers.result [] v c.deref-c-items.result.now)
      c.new-route.ensures.items;
  filled = subst (λ (v : List (Vec ℕ Global)). All (λ (r : List ℕ). 1 ≤ length r) (lists_of v))
      (sym c.new-routes.ensures.items) (All-nil (λ (r : List ℕ). 1 ≤ length r));
}

pub place-requires-clause-each : goal.place-requires-clause-each
place-requires-clause-each c = c.loop-c.invariant.filled

pub loop-c-preserved : goal.loop-c-preserved
loop-c-preserved c =
    let k : ℕ = c.customers-customers.result in
    let items : List ℕ = c.deref-c-items.result.now in
    let at : ℕ = c.loop-c.c-index in
    let old = c.loop-c.invariant in
    let IsFilled : List (List ℕ) → Type 0 = All (λ (r : List ℕ). 1 ≤ length r) in
    elim c.if-c-customers.branch [
      | then-c-customers+in_ok-push w ↦
          record {
            read = ap (λ (v : Vec (Vec ℕ Global) Global). read_on k (lists_of v.items) c.if-c-customers.route.items
                (drop (at + 1) items)) w.routes-is
                ∙ ap (λ (v : List ℕ). read_on k (lists_of c.loop-c.routes.items) v (drop (at + 1) items))
                (ap (λ (v : Vec ℕ Global). v.items) w.route-is ∙ w.in_ok-push.ensures.items)
                ∙ sym (read_low k (lists_of c.loop-c.routes.items) c.loop-c.route.items items at c.loop-c-test.true
                w.if-c-customers.true)
                ∙ old.read;
            filled = subst (λ (v : Vec (Vec ℕ Global) Global). IsFilled (lists_of v.items)) (sym w.routes-is)
                old.filled;
          }
      | else-c-customers+then-not-is_empty+in_ok-place w ↦
          let some : 1 ≤ length c.loop-c.route.items = some_of c.loop-c.route _ w.is_empty.ensures
          w.if-not-is_empty.true in
          let new : List (List ℕ) =
          insert_by first_of (turned_route c.loop-c.route.items) (lists_of c.loop-c.routes.items) in
          let made : lists_of c.if-c-customers.routes.items ≡ new =
          ap (λ (v : Vec (Vec ℕ Global) Global). lists_of v.items) w.routes-is ∙ w.in_ok-place.ensures
          ∙ ap (λ (v : List ℕ). insert_by first_of v (lists_of c.loop-c.routes.items)) w.turned.ensures in
          record {
            read = ap (λ (v : List (List ℕ)). read_on k v c.if-c-customers.route.items (drop (at + 1) items)) made
                ∙ ap (λ (v : List ℕ). read_on k new v (drop (at + 1) items))
                (ap (λ (v : Vec ℕ Global). v.items) w.route-is ∙ w.new-route-then-not-is_empty.ensures.items)
                ∙ sym (read_some k (lists_of c.loop-c.routes.items) c.loop-c.route.items items at c.loop-c-test.true
                w.if-c-customers.false some)
                ∙ old.read;
            filled = subst IsFilled (sym made)
                (filled-insert (turned_route c.loop-c.route.items) (lists_of c.loop-c.routes.items)
                (omega (arith, some, length-turned_route c.loop-c.route.items)) old.filled);
          }
      | else-c-customers+else-not-is_empty w ↦
          let none : c.loop-c.route.items ≡ [] = none_of c.loop-c.route _ w.is_empty.ensures w.if-not-is_empty.false in
          record {
            read = ap (λ (v : Vec (Vec ℕ Global) Global). read_on k (lists_of v.items) c.if-c-customers.route.items
                (drop (at + 1) items)) w.routes-is
                ∙ ap (λ (v : Vec ℕ Global). read_on k (lists_of c.loop-c.routes.items) v.items (drop (at + 1) items))
                w.route-is
                ∙ sym (read_none k (lists_of c.loop-c.routes.items) c.loop-c.route.items items at c.loop-c-test.true
                w.if-c-customers.false none)
                ∙ old.read;
            filled = subst (λ (v : Vec (Vec ℕ Global) Global). IsFilled (lists_of v.items)) (sym w.routes-is)
                old.filled;
          }
    ]

-- the routes that have been read
routes_are : (c : After-drop-elements-2) →
    IsPermutation (turned_all (paths_of (customer_count (instance_of c.args.cvrp.now)) c.args.ring.now))
    (lists_of c.loop-c.routes.items)
    × Climbing first_of (lists_of c.loop-c.routes.items)
routes_are c =
    let k : ℕ = c.customers-customers.result in
    let items : List ℕ = c.deref-c-items.result.now in
    let size : k ≡ customer_count (instance_of c.args.cvrp.now) = c.customers-customers.ensures.value in
    let from : items ≡ behind_copy k [] c.args.ring.now = c.deref-c-items.ensures.value ∙ c.in_ok-elements.ensures in
    let all : lists_of c.loop-c.routes.items ≡ read_on k [] [] items =
    ap (read_on k (lists_of c.loop-c.routes.items) c.loop-c.route.items)
    (sym (drop_all c.loop-c.c-index items c.loop-c-test.false))
    ∙ c.loop-c.invariant.read in (
      subst (λ (v : ℕ). IsPermutation (turned_all (paths_of v c.args.ring.now)) (lists_of c.loop-c.routes.items)) size
          (subst (λ (v : List (List ℕ)). IsPermutation (turned_all (paths_of k c.args.ring.now)) v) (sym all)
          (subst (λ (v : List ℕ). IsPermutation (turned_all (paths_from k [] v)) (read_on k [] [] items)) from
          (read_permutation k [] [] items))),
      subst (λ (v : List (List ℕ)). Climbing first_of v) (sym all) (read_climbing k [] [] items tt),
    )

pub returns-clause-read : goal.returns-clause-read
returns-clause-read c =
    let r = routes_are c in
    record { read = r.0; order = in_order (lists_of c.loop-c.routes.items) r.1 }

pub returns-clause-routes : goal.returns-clause-routes
returns-clause-routes c =
    AreRoutes-read (instance_of c.args.cvrp.now) c.args.ring.now c.requires.ring c.requires.copies
    (lists_of c.loop-c.routes.items) (routes_are c).0 c.requires.fits

pub returns-clause-count : goal.returns-clause-count
returns-clause-count c =
    let k : ℕ = customer_count (instance_of c.args.cvrp.now) in
    omega (
      arith,
      c.loop-c.routes.ok.0,
      length-map c.loop-c.routes.items (λ (r : Vec ℕ Global). r.items),
      length_permutation _ _ (routes_are c).0,
      length-map (filled_of (paths_of k c.args.ring.now)) turned_route,
    )

pub returns-clause-few : goal.returns-clause-few
returns-clause-few c =
    omega (
      arith,
      c.loop-c.routes.ok.0,
      length-map c.loop-c.routes.items (λ (r : Vec ℕ Global). r.items),
      few_read (instance_of c.args.cvrp.now) c.args.ring.now c.requires.ring c.requires.copies
          (lists_of c.loop-c.routes.items) (routes_are c).0,
    )

pub returns-clause-cost : goal.returns-clause-cost
returns-clause-cost c =
    cost_read (instance_of c.args.cvrp.now) c.args.ring.now c.requires.ring c.requires.copies
    (lists_of c.loop-c.routes.items) (routes_are c).0 (table_distance-swap c.args.cvrp.now.table)
    (table_distance-same c.args.cvrp.now.table)
