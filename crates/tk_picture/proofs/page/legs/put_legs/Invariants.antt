-- the legs before this customer are put
use Rattle.tk_routes.specs.Cvrps.{instance_of}
use Rattle.tk_picture.proofs.RouteLegs.{AreLegsPut}
use Rattle.tk_picture.proofs.page.legs.put_legs.Given as goal

abbrev pub invariant-loop-customer : goal.invariant-loop-customer
invariant-loop-customer g l =
    AreLegsPut g.W.Sink l.initial.pen l.pen (instance_of l.cvrp) l.route l.customer-index l.from
