use Rattle.std.proofs.Common.{◌∙◌, sym}
use Rattle.tk_routes.specs.Cvrps.{instance_of}
use Rattle.tk_picture.specs.PageText.{row_line, route_row}
use Rattle.tk_picture.proofs.RoutePaths.{filled_some}
use Rattle.tk_picture.proofs.page.table.put_filled.Goals as goal

pub returns-then-not-is_empty : goal.returns-then-not-is_empty
returns-then-not-is_empty g c =
    rw (filled_some (route_row (instance_of c.args.cvrp.now)) row_line c.args.number c.args.route.now
    (sym c.is_empty.ensures ∙ c.if-not-is_empty.true)) c.put_row.ensures
