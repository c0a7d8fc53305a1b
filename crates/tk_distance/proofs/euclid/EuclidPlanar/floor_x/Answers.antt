use Rattle.std.proofs.Common.{◌*◌, arith}
use Rattle.std.proofs.lemmas.Int.{ints}
use Rattle.tk_problem.specs.declared.weights.PlaneKind.TheVariants.{Euc2d}
use Rattle.tk_problem.specs.Units.{step_of}
use Rattle.tk_distance.specs.Laws.Distances.{distance-unique}
use Rattle.tk_distance.proofs.ExactRoots.Rounding.{nearest_along}
use Rattle.tk_distance.proofs.euclid.EuclidPlanar.floor_x.Goals as goal

pub returns : goal.returns
returns c =
    let length = c.args.dx * step_of c.args.self.now.unit in
    let is = nearest_along length c.rounded_length.result c.rounded_length.ensures.nearest in
    let value = distance-unique Euc2d length 0 c.rounded_length.result is in
    omega (arith, ints, value, c.rounded_length.ensures.bound)
