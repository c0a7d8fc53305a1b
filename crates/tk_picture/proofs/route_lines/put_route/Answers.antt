use Rattle.std.proofs.Common.{◌∙◌, sym}
use Rattle.tk_routes.specs.Cvrps.{instance_of}
use Rattle.tk_picture.specs.Drawings.{route_path}
use Rattle.tk_picture.specs.PictureText.{part_line}
use Rattle.tk_picture.specs.Views.{spot_in}
use Rattle.tk_picture.proofs.RoutePaths.{filled_some}
use Rattle.tk_picture.proofs.route_lines.put_route.Goals as goal

pub returns-then-not-is_empty : goal.returns-then-not-is_empty
returns-then-not-is_empty g c =
    rw (filled_some (route_path (instance_of c.args.cvrp.now)) (part_line c.args.part (spot_in c.args.view.now))
    c.args.number c.args.route.now (sym c.is_empty.ensures ∙ c.if-not-is_empty.true)) c.put_part.ensures
