use Rattle.std.proofs.Common.{◌≡◌, ℕ, Vec, Global, ◌∙◌}
use Rattle.std.specs.Prelude.{map}
use Rattle.std.specs.Vec.{with_items}
use Rattle.tk_near.specs.Near.{near_of}
use Rattle.tk_routes.specs.Cvrps.{instance_of}
use Rattle.tk_routes.specs.Instance.{customer_of}
use Rattle.tk_routes.specs.Routes.{AreRoutes}
use Rattle.tk_routes.proofs.Improving.Merged.{AreLight-demands, AreRoutes-merged, AreSavingsRoutes-merged}
use Rattle.tk_routes.proofs.Improving.Merged.{numbered_lists}
use Rattle.tk_routes.proofs.solving.merging.savings.Goals as goal
use Rattle.tk_routes.proofs.solving.merging.savings.Goals.{After-number_all}

-- the lists with their nodes numbered as customers
numbered : (c : After-number_all) →
    map (λ (r : Vec ℕ Global). r.items) (with_items c.in_ok-lists.lists c.number_all.new.lists).items
    ≡ map (map (customer_of c.args.cvrp.now.depot)) (map (λ (r : Vec ℕ Global). r.items) c.in_ok-lists.lists.items)
numbered c =
    numbered_lists (λ (r : Vec ℕ Global). r.items) c.args.cvrp.now.depot c.in_ok-lists.lists c.deref_mut.result.now
    c.number_all.new.lists c.deref_mut.ensures.value (c.number_all.auto.lists ∙ c.deref_mut.ensures.len)
    c.number_all.ensures

valid : (c : After-number_all) → AreRoutes (instance_of c.args.cvrp.now)
    (map (λ (r : Vec ℕ Global). r.items) (with_items c.in_ok-lists.lists c.number_all.new.lists).items)
valid c =
    let cvrp = c.args.cvrp.now in
    let lists = c.in_ok-lists.ensures in
    AreRoutes-merged (λ (r : Vec ℕ Global). r.items) (instance_of cvrp) c.in_ok-lists.lists.items cvrp.known
    (numbered c) lists.once lists.filled
    (lists.within (AreLight-demands _ cvrp.depot cvrp.capacity cvrp.demands.now cvrp.each cvrp.loads))

pub invariant_of-result : goal.invariant_of-result
invariant_of-result c = record { valid = valid (goal.at.invariant_of-result c).After-number_all }

pub returns-clause-merged : goal.returns-clause-merged
returns-clause-merged c =
    AreSavingsRoutes-merged (λ (r : Vec ℕ Global). r.items) (instance_of c.args.cvrp.now) c.in_ok-lists.lists.items
    c.args.cvrp.now.known (numbered (goal.at.returns-clause-merged c).After-number_all) c.in_ok-lists.ensures.once
    (near_of c.args.near.now) c.in_ok-lists.ensures.lists

pub returns-clause-routes : goal.returns-clause-routes
returns-clause-routes c = valid (goal.at.returns-clause-routes c).After-number_all
