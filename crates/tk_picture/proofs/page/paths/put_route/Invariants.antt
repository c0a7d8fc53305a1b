-- the customers before this one are put
use Rattle.std.proofs.Common.{take, ◌++◌}
use Rattle.std.specs.Prelude.{codes, decimal, flat_map}
use Rattle.tk_writers.specs.Pens.{Puts}
use Rattle.tk_routes.specs.Cvrps.{instance_of}
use Rattle.tk_routes.specs.Instance.{node_of}
use Rattle.tk_picture.proofs.page.paths.put_route.Given as goal

abbrev pub invariant-loop-customer : goal.invariant-loop-customer
invariant-loop-customer g l =
    Puts g.W.Sink l.initial.pen l.pen
    (flat_map (λ k. codes " " ++ decimal (node_of (instance_of l.cvrp).depot k)) (take l.customer-index l.route))
