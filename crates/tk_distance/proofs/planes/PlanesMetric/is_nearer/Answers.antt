use Rattle.std.proofs.lemmas.Grind.{elements}
use Rattle.std.proofs.Common.{rules, w64, SFits, arith}
use Rattle.tk_problem.specs.PlacesOf.{places_of}
use Rattle.tk_distance.proofs.PlaneReads.{below_limit, whole_city_distance, fine_city_distance}
use Rattle.tk_distance.proofs.planes.PlanesMetric.is_nearer.Goals as goal

pub returns-in-Whole : goal.returns-in-Whole
returns-in-Whole c =
    let m = c.args.self.now in
    let fits : SFits w64 c.args.limit = search rules in
    below_limit m.kind (places_of m.places) c.args.a c.args.b c.bound_of-bound.result c.args.limit _ m.near fits
    c.bound_of-bound.ensures.value (c.is_whole_nearer.ensures _
    (whole_city_distance m.kind m.places c.in-Whole.unit c.in-Whole.places c.args.a c.args.b c.index-places-a.result
    c.index-places-b.result c.in-Whole.is c.requires.a c.requires.b c.index-places-a.is c.index-places-b.is))

pub returns-in-Fine : goal.returns-in-Fine
returns-in-Fine c =
    let m = c.args.self.now in
    let fits : SFits w64 c.args.limit = search rules in
    below_limit m.kind (places_of m.places) c.args.a c.args.b c.bound_of-bound.result c.args.limit _ m.near fits
    c.bound_of-bound.ensures.value (c.is_fine_nearer.ensures _
    (fine_city_distance m.kind m.places c.in-Fine.places c.args.a c.args.b c.in-Fine.is))

pub is_fine_nearer-requires-clause-p_near : goal.is_fine_nearer-requires-clause-p_near
is_fine_nearer-requires-clause-p_near c = grind (arith, elements)

pub is_fine_nearer-requires-clause-q_near : goal.is_fine_nearer-requires-clause-q_near
is_fine_nearer-requires-clause-q_near c = grind (arith, elements)
