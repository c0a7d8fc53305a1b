use Rattle.std.proofs.Common.{ℕ, List, ap, append-nil, subst, sym, ◌∙◌}
use Rattle.tk_writers.specs.Pens.{Puts}
use Rattle.tk_writers.specs.Written.{line}
use Rattle.tk_writers.proofs.Pieces.Putting.{Puts-then}
use Rattle.tk_routes.specs.Cvrps.{instance_of}
use Rattle.tk_routes.specs.Instance.{node_of}
use Rattle.tk_picture.specs.Views.{spot_in}
use Rattle.tk_picture.proofs.RoutePaths.{first_stop, last_stop}
use Rattle.tk_picture.proofs.route_lines.put_at_depot.Goals as goal

pub returns : goal.returns
returns g c =
    let stop : ℕ → List ℕ = λ n. line (spot_in c.args.view.now n) in
    let depot = (instance_of c.args.cvrp.now).depot in
    let route = c.args.route.now in
    let last = sym (last_stop (node_of depot) depot route c.requires.some) in
    let first = sym (first_stop (node_of depot) depot route c.requires.some) in
    let after_last = subst (Puts _ _ _) (ap stop (c.node.ensures.value ∙ last)) c.put_corner.ensures in
    let after_depot = rw c.depot.ensures.value at c.put_corner-2.ensures in
    let after_first = subst (Puts _ _ _) (ap stop (c.node-2.ensures.value ∙ first)) c.put_corner-3.ensures in
    let at_end = subst (Puts _ _ _) (sym (append-nil _)) after_first in
    Puts-then (Puts-then c.put_open_start.ensures (Puts-then after_last (Puts-then after_depot at_end)))
    c.put.ensures
