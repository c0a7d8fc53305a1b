use Rattle.std.proofs.Common.{◌≡◌, ℕ, List, length, ◌∙◌, ◌++◌, sym, arith}
use Rattle.std.specs.Prelude.{codes, decimal}
use Rattle.std.proofs.lemmas.List.Folds.{flat_map-map}
use Rattle.tk_writers.proofs.Pieces.PutEach.{flat_map_take, flat_map_all}
use Rattle.tk_writers.proofs.Pieces.Putting.{Puts-then}
use Rattle.tk_routes.specs.Cvrps.{instance_of}
use Rattle.tk_routes.specs.Instance.{node_of}
use Rattle.tk_picture.specs.Drawings.{route_path}
use Rattle.tk_picture.specs.PageText.{path_line}
use Rattle.tk_picture.proofs.RoutePaths.{filled_some}
use Rattle.tk_picture.proofs.page.paths.put_route.Goals as goal

pub loop-customer-preserved : goal.loop-customer-preserved
loop-customer-preserved g c =
    let depot = (instance_of c.args.cvrp.now).depot in
    rw (flat_map_take (λ k. codes " " ++ decimal (node_of depot k)) c.args.route.now c.loop-customer.customer-index
    c.loop-customer-test.true)
    (Puts-then c.loop-customer.invariant
    (Puts-then c.put.ensures (rw c.node.ensures.value at c.put_number-in-loop-customer.ensures)))

pub returns : goal.returns
returns g c =
    let stop : ℕ → List ℕ = λ n. codes " " ++ decimal n in
    let i = instance_of c.args.cvrp.now in
    let route = c.args.route.now in
    let all : c.loop-customer.customer-index ≡ length route = omega (arith, c.loop-customer.auto.customer-index-end) in
    let rest = flat_map_all (λ k. stop (node_of i.depot k)) route c.loop-customer.customer-index all
    ∙ sym (flat_map-map stop (node_of i.depot) route) in
    rw (filled_some (route_path i) path_line c.args.number route (sym c.is_empty.ensures ∙ c.if-is_empty.false))
    (Puts-then
    (Puts-then (rw c.depot.ensures.value at c.put_number.ensures) (rw rest at c.loop-customer.invariant))
    c.put-2.ensures)
