use Rattle.std.proofs.Common.{◌∙◌, sym}
use Rattle.tk_writers.proofs.Pieces.Putting.{Puts-then}
use Rattle.tk_routes.specs.Cvrps.{instance_of}
use Rattle.tk_picture.specs.PageText.{legs_line, route_legs}
use Rattle.tk_picture.proofs.RoutePaths.{filled_none, filled_some}
use Rattle.tk_picture.proofs.EmptyPen.{Puts-none}
use Rattle.tk_picture.proofs.page.legs.put_route.Goals as goal

pub returns-then-is_empty : goal.returns-then-is_empty
returns-then-is_empty g c =
    rw (filled_none (route_legs (instance_of c.args.cvrp.now)) legs_line c.args.number c.args.route.now
    (sym c.is_empty.ensures ∙ c.if-is_empty.true)) Puts-none

pub returns : goal.returns
returns g c =
    rw (filled_some (route_legs (instance_of c.args.cvrp.now)) legs_line c.args.number c.args.route.now
    (sym c.is_empty.ensures ∙ c.if-is_empty.false))
    (Puts-then (Puts-then c.put_number.ensures c.put_legs.ensures) c.put.ensures)
