-- the routes before this one are put
use Rattle.tk_routes.specs.Cvrps.{instance_of}
use Rattle.tk_picture.specs.PageText.{row_line, route_row}
use Rattle.tk_picture.proofs.EachRoute.{ArePut}
use Rattle.tk_picture.proofs.page.table.put_rows.Given as goal

abbrev pub invariant-loop-route : goal.invariant-loop-route
invariant-loop-route g l =
    ArePut g.W.Sink l.initial.pen l.pen (route_row (instance_of l.cvrp)) row_line l.routes l.route-index
    l.number
