use Rattle.std.proofs.Common.{◌≡◌, ℕ, List, length, ◌∙◌, sym, subst, arith}
use Rattle.std.proofs.lemmas.List.Folds.{flat_map-map}
use Rattle.tk_writers.proofs.Pieces.PutEach.{flat_map_take, flat_map_all}
use Rattle.tk_writers.proofs.Pieces.Putting.{Puts-then}
use Rattle.tk_writers.specs.Pens.{Puts}
use Rattle.tk_writers.specs.Written.{line}
use Rattle.tk_routes.specs.Cvrps.{instance_of}
use Rattle.tk_routes.specs.Instance.{node_of}
use Rattle.tk_picture.specs.Views.{spot_in}
use Rattle.tk_picture.proofs.view.View.put_customers.Goals as goal

pub loop-customer-preserved : goal.loop-customer-preserved
loop-customer-preserved g c =
    let depot = (instance_of c.args.cvrp.now).depot in
    rw (flat_map_take (λ k. line (spot_in c.args.self.now (node_of depot k))) c.args.route.now
    c.loop-customer.customer-index c.loop-customer-test.true)
    (Puts-then c.loop-customer.invariant (rw c.node.ensures.value at c.put_corner.ensures))

pub returns : goal.returns
returns g c =
    let stop : ℕ → List ℕ = λ n. line (spot_in c.args.self.now n) in
    let depot = (instance_of c.args.cvrp.now).depot in
    let route = c.args.route.now in
    let all : c.loop-customer.customer-index ≡ length route = omega (arith, c.loop-customer.auto.customer-index-end) in
    subst (Puts _ _ _) (flat_map_all (λ k. stop (node_of depot k)) route c.loop-customer.customer-index all
    ∙ sym (flat_map-map stop (node_of depot) route)) c.loop-customer.invariant
