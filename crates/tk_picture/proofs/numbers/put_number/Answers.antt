use Rattle.std.proofs.Common.{◌≡◌, Some, ap, sym, ◌∙◌}
use Rattle.std.specs.Prelude.{option_copied, slice_get}
use Rattle.tk_routes.specs.Cvrps.{instance_of}
use Rattle.tk_picture.proofs.RoutePaths.{marked}
use Rattle.tk_picture.specs.Views.{spot_in}
use Rattle.tk_picture.proofs.numbers.put_number.Goals as goal

pub returns-in-Some : goal.returns-in-Some
returns-in-Some g c =
    let at = spot_in c.args.view.now in
    let first : slice_get c.args.route.now 0 ≡ Some c.in-Some.first.now = sym c.first.ensures.value
    ∙ ap option_copied c.in-Some.is in
    rw (marked at (instance_of c.args.cvrp.now) c.args.number c.args.route.now c.in-Some.first.now first)
    (rw c.node.ensures.value at c.put_mark.ensures)
