-- the routes before this one are put
use Rattle.tk_routes.specs.Cvrps.{instance_of}
use Rattle.tk_picture.specs.Drawings.{route_path}
use Rattle.tk_picture.specs.PictureText.{part_line}
use Rattle.tk_picture.specs.Views.{spot_in}
use Rattle.tk_picture.proofs.EachRoute.{ArePut}
use Rattle.tk_picture.proofs.route_lines.put_routes.Given as goal

abbrev pub invariant-loop-route : goal.invariant-loop-route
invariant-loop-route g l =
    ArePut g.W.Sink l.initial.pen l.pen (route_path (instance_of l.cvrp)) (part_line l.part (spot_in l.view))
    l.routes l.route-index l.number
