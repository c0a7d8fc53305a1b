use Rattle.tk_problem.specs.declared.points.Places.TheVariants.{Whole}
use Rattle.tk_near.proofs.EuclidTables.{euclid_table}
use Rattle.tk_near.proofs.table.near_lists.Goals as goal

pub returns-in-Some : goal.returns-in-Some
returns-in-Some c =
    let euclid = c.in-Some.euclid in
    let same = rw c.in-Some.is at c.euclid.ensures.some in
    let are = euclid_table c.args.table.now c.in-Planes.planes (Whole euclid.unit euclid.places) c.in-Planes.is same in
    rw (are.0, are.1) c.near_tree.ensures

pub returns-in-None : goal.returns-in-None
returns-in-None c = rw c.in-Planes.is c.near_tree-in-None.ensures

pub returns-in-Triangle : goal.returns-in-Triangle
returns-in-Triangle c = rw c.in-Triangle.is c.near_scan.ensures
