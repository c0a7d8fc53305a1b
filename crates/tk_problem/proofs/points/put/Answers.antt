use Rattle.std.proofs.Common.{All, ◌∙◌, ap, map, set, subst, sym, arith}
use Rattle.std.proofs.lemmas.List.{map-set}
use Rattle.std.proofs.lemmas.List.Elements.{All-set}
use Rattle.tk_problem.proofs.UnitPoints.{places_in-near}
use Rattle.tk_problem.specs.Places.{IsNearOrigin}
use Rattle.tk_problem.specs.Units.{place_in}
use Rattle.std.proofs.lemmas.Grind.{common_steps}
use Rattle.tk_problem.proofs.points.put.Goals as goal

pub returns-in-Some-2-clause-places : goal.returns-in-Some-2-clause-places
returns-in-Some-2-clause-places c =
    let same = rw c.in-Some-2.is at c.in_ok-moved.ensures in
    map-set (place_in c.in-Some.finer) c.in-Some-2.moved.items c.args.index c.in-Some.whole
    ∙ ap (λ ps. set ps c.args.index (place_in c.in-Some.finer c.in-Some.whole)) same
    ∙ ap (λ p. set (map (place_in c.args.unit) c.args.places.now) c.args.index p) c.in-Some.ensures

pub returns-in-Some-2-clause-near : goal.returns-in-Some-2-clause-near
returns-in-Some-2-clause-near c = places_in-near c.in-Some.finer _

pub returns-clause-near : goal.returns-clause-near
returns-clause-near c =
    All-set IsNearOrigin c.in_ok-fine.fine.items c.args.index c.args.place c.requires.near
    (subst (All IsNearOrigin) (sym c.in_ok-fine.ensures) (places_in-near c.args.unit c.args.places.now))

pub returns-clause-places : goal.returns-clause-places
returns-clause-places c = grind (arith, common_steps)

pub index_mut-requires : goal.index_mut-requires
index_mut-requires c = grind (arith, common_steps)

pub index_mut-requires-2 : goal.index_mut-requires-2
index_mut-requires-2 c = grind (arith, common_steps)
