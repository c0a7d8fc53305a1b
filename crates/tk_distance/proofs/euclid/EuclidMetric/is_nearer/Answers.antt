use Rattle.std.proofs.lemmas.Grind.{common_steps}
use Rattle.std.proofs.Common.{rules, ap, get_or, refl, w64, SFits, ◌-◌, arith}
use Rattle.tk_problem.specs.PlacesOf.{places_of}
use Rattle.tk_problem.specs.declared.points.Places.TheVariants.{Whole}
use Rattle.tk_problem.specs.declared.weights.PlaneKind.TheVariants.{Euc2d}
use Rattle.tk_distance.proofs.PlaneReads.{below_limit, whole_city_distance}
use Rattle.tk_distance.proofs.euclid.EuclidMetric.is_nearer.Goals as goal

pub returns : goal.returns
returns c =
    let unit = c.args.self.now.unit in
    let row = c.args.self.now.places in
    let fits : SFits w64 c.args.limit = search rules in
    below_limit Euc2d (places_of (Whole unit row)) c.args.a c.args.b c.bound_of.result c.args.limit _
    c.args.self.now.near fits c.bound_of.ensures.value (c.is_whole_nearer.ensures _
    (whole_city_distance Euc2d (Whole unit row) unit row c.args.a c.args.b _ _ refl c.requires.a c.requires.b
    (ap (get_or row.now (c.args.a - 1)) c.index-self-a.is) (ap (get_or row.now (c.args.b - 1)) c.index-self-b.is)))

pub is_whole_nearer-requires : goal.is_whole_nearer-requires
is_whole_nearer-requires c = grind (arith, common_steps)
