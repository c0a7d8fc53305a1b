use Rattle.std.proofs.lemmas.Grind.{elements}
use Rattle.std.proofs.Common.{arith}
use Rattle.tk_problem.specs.PlacesOf.{places_of}
use Rattle.tk_distance.proofs.PlaneReads.{whole_cities, fine_cities, signed_value, signed_distance}
use Rattle.tk_distance.proofs.planes.PlanesMetric.dist.Goals as goal

pub returns-in-Whole : goal.returns-in-Whole
returns-in-Whole c =
    let is = whole_cities c.args.self.now.kind c.args.self.now.places c.in-Whole.unit c.in-Whole.places c.args.a
    c.args.b c.index-places-a.result c.index-places-b.result c.whole_between.result
    c.in-Whole.is c.requires.a c.requires.b c.index-places-a.is c.index-places-b.is c.whole_between.ensures.distance in
    record {
      value = signed_value c.args.self.now.kind (places_of c.args.self.now.places) c.args.a c.args.b _ is
          c.whole_between.ensures.limit;
      exact = signed_distance c.args.self.now.kind (places_of c.args.self.now.places) c.args.a c.args.b _ is
          c.whole_between.ensures.limit;
    }

pub returns-in-Fine : goal.returns-in-Fine
returns-in-Fine c =
    let is = fine_cities c.args.self.now.kind c.args.self.now.places c.in-Fine.places c.args.a c.args.b
    c.fine_between.result
    c.in-Fine.is c.fine_between.ensures.distance in
    record {
      value = signed_value c.args.self.now.kind (places_of c.args.self.now.places) c.args.a c.args.b _ is
          c.fine_between.ensures.limit;
      exact = signed_distance c.args.self.now.kind (places_of c.args.self.now.places) c.args.a c.args.b _ is
          c.fine_between.ensures.limit;
    }

pub fine_between-requires-clause-p_near : goal.fine_between-requires-clause-p_near
fine_between-requires-clause-p_near c = grind (arith, elements)

pub fine_between-requires-clause-q_near : goal.fine_between-requires-clause-q_near
fine_between-requires-clause-q_near c = grind (arith, elements)
