use Rattle.tk_problem.specs.declared.points.Places.TheVariants.{Whole}
use Rattle.tk_near.proofs.EuclidTables.{euclid_table}
use Rattle.tk_starts.proofs.nearest_tours.of_table.nearest_tour.Goals as goal

pub returns-in-Some-clause-nearest : goal.returns-in-Some-clause-nearest
returns-in-Some-clause-nearest c =
    let euclid = c.in-Some.euclid in
    let same = rw c.in-Some.is at c.euclid.ensures.some in
    let are = euclid_table c.args.table.now c.in-Planes.planes (Whole euclid.unit euclid.places) c.in-Planes.is same in
    rw (are.0, are.1) c.nearest_tree.ensures.nearest

pub returns-in-None-clause-nearest : goal.returns-in-None-clause-nearest
returns-in-None-clause-nearest c = rw c.in-Planes.is c.nearest_tree-in-None.ensures.nearest
