-- the customers before this one are put
use Rattle.std.proofs.Common.{take}
use Rattle.std.specs.Prelude.{flat_map}
use Rattle.tk_writers.specs.Pens.{Puts}
use Rattle.tk_writers.specs.Written.{line}
use Rattle.tk_routes.specs.Cvrps.{instance_of}
use Rattle.tk_routes.specs.Instance.{node_of}
use Rattle.tk_picture.specs.Views.{spot_in}
use Rattle.tk_picture.proofs.view.View.put_customers.Given as goal

abbrev pub invariant-loop-customer : goal.invariant-loop-customer
invariant-loop-customer g l =
    Puts g.W.Sink l.initial.pen l.pen
    (flat_map (λ k. line (spot_in l.self (node_of (instance_of l.cvrp).depot k)))
    (take l.customer-index l.route))
