use Rattle.std.proofs.Common.{◌∙◌, ap, arith, length}
use Rattle.std.proofs.lemmas.List.{length-replicate}
use Rattle.tk_near.specs.Keeping.{empty_slot}
use Rattle.tk_near.specs.Tree.{entries_of, with_cities}
use Rattle.tk_near.proofs.InPlane.TreeCandidates.{IsNear-from_row, with_cities-length}
use Rattle.tk_near.proofs.InPlane.EachCityOnce.{IsRow-placed}
use Rattle.tk_near.proofs.plane.tree.search_city.Goals as goal

pub returns-clause-size : goal.returns-clause-size
returns-clause-size g c =
    ap length c.search.ensures
    ∙ with_cities-length (g.P.Metric.distance c.args.m.now) c.args.here.now.city (entries_of c.args.tree.now)
    c.clear.new.self.kept.items
    ∙ ap length c.clear.ensures ∙ length-replicate (length c.args.many.now.kept.items) empty_slot

pub returns-clause-near : goal.returns-clause-near
returns-clause-near g c =
    let m = c.args.m.now in
    let k = length c.args.many.now.kept.items in
    let dist = g.P.Metric.distance m in
    let row = entries_of c.args.tree.now in
    let kept = c.search.ensures ∙ ap (with_cities dist c.args.here.now.city row) c.clear.ensures in
    rw kept (IsNear-from_row dist (g.met.P.Metric.distance_limit m) (length row) (g.P.Planar.place_of m) row
    c.requires.tree (omega (arith, c.requires.part, g.met.P.Metric.size_limit m)) c.args.here.now.city k
    c.requires.high)

pub search-requires-clause-placed : goal.search-requires-clause-placed
search-requires-clause-placed g c =
    IsRow-placed (length (entries_of c.args.tree.now)) (g.P.Metric.size_of c.args.m.now)
    (g.P.Planar.place_of c.args.m.now) (entries_of c.args.tree.now) c.requires.tree c.requires.part
