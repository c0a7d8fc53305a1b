use Rattle.std.proofs.Common.{arith}
use Rattle.std.proofs.lemmas.Int.{ints}
use Rattle.tk_distance.specs.Laws.Distances.{limit, distance-unique}
use Rattle.tk_distance.proofs.planes.PlanesPlanar.floor_x.Goals as goal

pub overflow_cast-result : goal.overflow_cast-result
overflow_cast-result c =
    let low = limit c.args.self.now.kind c.args.dx 0 c.floor_distance.result c.requires (omega arith)
    c.floor_distance.ensures in
    omega (arith, ints)

pub returns : goal.returns
returns c =
    let low = limit c.args.self.now.kind c.args.dx 0 c.floor_distance.result c.requires (omega arith)
    c.floor_distance.ensures in
    let value = distance-unique c.args.self.now.kind c.args.dx 0 c.floor_distance.result c.floor_distance.ensures in
    omega (arith, ints)
