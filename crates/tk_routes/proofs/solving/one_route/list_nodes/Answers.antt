use Rattle.std.proofs.Common.{◌≡◌, ℕ, ◌+◌, List, [], ◌∷◌, ◌++◌, ◌∙◌, take, ap, subst, sym}
use Rattle.std.proofs.lemmas.List.{map_more}
use Rattle.std.proofs.lemmas.List.Elements.{All-append, All-cons, All-nil}
use Rattle.std.specs.Prelude.{All, map}
use Rattle.tk_distance.specs.Cities.{IsCity}
use Rattle.tk_routes.specs.Cvrps.{instance_of}
use Rattle.tk_routes.specs.Instance.{node_of}
use Rattle.tk_routes.proofs.solving.one_route.list_nodes.Goals as goal

pub loop-customer-preserved : goal.loop-customer-preserved
loop-customer-preserved c =
    let depot = c.args.cvrp.now.depot in
    let route = c.args.route.now in
    let at = c.loop-customer.customer-index in
    let node = c.node.result in
    let before = c.loop-customer.invariant in
    let IsNode : ℕ → Type 0 = IsCity (instance_of c.args.cvrp.now).size in
    let pushed = c.in_ok-push-2.ensures.items in
    let nodes : List ℕ = map (node_of depot) (take at route) in
    let more : nodes ++ node ∷ [] ≡ map (node_of depot) (take (at + 1) route) =
    ap (λ v. nodes ++ v ∷ []) c.node.ensures.value
    ∙ sym (map_more (node_of depot) route at 0 c.loop-customer-test.true) in
    record {
      value = pushed ∙ ap (λ v. v ++ node ∷ []) before.value ∙ ap (λ v. depot ∷ v) more;
      known =
          subst (λ (v : List ℕ). All IsNode v) (sym pushed)
          (All-append IsNode _ _ before.known (All-cons IsNode node [] c.node.ensures.known (All-nil IsNode)));
    }
