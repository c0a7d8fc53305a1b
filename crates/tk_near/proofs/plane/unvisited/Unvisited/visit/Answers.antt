use Rattle.std.proofs.Common.{[], ◌∷◌, subst, sym}
use Rattle.tk_near.specs.Keeping.{empty_slot}
use Rattle.tk_near.specs.Tree.{entries_of}
use Rattle.tk_near.specs.Unvisited.{ArePlacedApart, Stands}
use Rattle.tk_near.proofs.InPlane.FirstUnvisited.{none_kept, first_kept}
use Rattle.tk_near.proofs.InPlane.UnvisitedLaws.{AreApart-taken, taken_there}
use Rattle.tk_near.proofs.plane.unvisited.Unvisited.visit.Goals as goal
use Rattle.tk_near.proofs.plane.unvisited.Unvisited.visit.Goals.{then-one, else-one}

pub returns-clause-first : goal.returns-clause-first
returns-clause-first g c =
    let m = c.args.m.now in
    let n = g.P.Metric.size_of m in
    let place_of = g.P.Planar.place_of m in
    let dist = g.P.Metric.distance m in
    let here = c.args.here in
    let old = entries_of c.self.inside.tree in
    let left = entries_of c.take_from.new.tree in
    let apart = subst (ArePlacedApart n place_of) (sym c.self.view_is) c.requires.apart in
    let there = subst (λ row. Stands row here.city) (sym c.self.view_is) c.requires.there in
    let taken = taken_there n place_of here old left _ _ c.take_from.result c.take_from.ensures.taken
    c.take_from.ensures.shown apart c.requires.here there in
    let others = AreApart-taken n place_of here old left apart taken.0 in
    elim c.if-one.branch [
      | then-one w ↦ rw w.result-is
          (none_kept dist here.city (g.met.P.Metric.distance_limit m) n place_of (g.met.P.Metric.size_limit m) left
          others.each (c.take_from.new.collector.best ∷ []) taken.1 empty_slot w.if-one.true)
      | else-one w ↦ rw w.result-is
          (first_kept dist here.city (g.met.P.Metric.distance_limit m) n place_of (g.met.P.Metric.size_limit m) left
          others.each (c.take_from.new.collector.best ∷ []) taken.1 empty_slot w.if-one.false)
    ]
