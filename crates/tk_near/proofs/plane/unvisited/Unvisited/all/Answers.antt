use Rattle.std.proofs.Common.{subst}
use Rattle.tk_near.specs.CityPoint.{IsRow}
use Rattle.tk_near.specs.Tree.{entries_of}
use Rattle.tk_near.proofs.plane.unvisited.Unvisited.all.Goals as goal

pub returns : goal.returns
returns g c =
    subst (λ n. IsRow n (g.P.Planar.place_of c.args.m.now) (entries_of c.in_ok-tree.tree)) c.size.ensures
    c.in_ok-tree.ensures.entries
