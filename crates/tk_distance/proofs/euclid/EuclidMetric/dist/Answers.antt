use Rattle.std.proofs.Common.{ap, get_or, refl, ◌-◌}
use Rattle.tk_problem.specs.PlacesOf.{places_of}
use Rattle.tk_problem.specs.declared.points.Places.TheVariants.{Whole}
use Rattle.tk_problem.specs.declared.weights.PlaneKind.TheVariants.{Euc2d}
use Rattle.tk_distance.proofs.PlaneReads.{whole_cities, signed_value}
use Rattle.tk_distance.proofs.euclid.EuclidMetric.dist.Goals as goal

pub returns : goal.returns
returns c =
    let unit = c.args.self.now.unit in
    let row = c.args.self.now.places in
    let is = whole_cities Euc2d (Whole unit row) unit row c.args.a c.args.b _ _ c.whole_between.result refl
    c.requires.a c.requires.b
    (ap (get_or row.now (c.args.a - 1)) c.index-self-a.is) (ap (get_or row.now (c.args.b - 1)) c.index-self-b.is)
    c.whole_between.ensures.distance in
    signed_value Euc2d (places_of (Whole unit row)) c.args.a c.args.b _ is c.whole_between.ensures.limit
