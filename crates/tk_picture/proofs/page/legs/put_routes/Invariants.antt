-- the routes before this one are put
use Rattle.tk_routes.specs.Cvrps.{instance_of}
use Rattle.tk_picture.specs.PageText.{legs_line, route_legs}
use Rattle.tk_picture.proofs.EachRoute.{ArePut}
use Rattle.tk_picture.proofs.page.legs.put_routes.Given as goal

abbrev pub invariant-loop-route : goal.invariant-loop-route
invariant-loop-route g l =
    ArePut g.W.Sink l.initial.pen l.pen (route_legs (instance_of l.cvrp)) legs_line l.routes l.route-index
    l.number
