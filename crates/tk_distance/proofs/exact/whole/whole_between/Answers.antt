use Rattle.tk_problem.specs.Units.{place_in}
use Rattle.tk_problem.specs.Laws.Units.{place_in-near}
use Rattle.tk_distance.specs.Laws.Planes.{IsDistanceOf-limit}
use Rattle.tk_distance.proofs.ExactRoots.Units.{greatest_alike}
use Rattle.tk_distance.proofs.PlaneReads.{whole_euclid}
use Rattle.tk_distance.proofs.exact.whole.whole_between.Goals as goal

pub returns-in-Euc2d : goal.returns-in-Euc2d
returns-in-Euc2d c =
    let is = whole_euclid c.args.kind c.args.unit c.args.p c.args.q c.square_between.result c.nearest.result
    c.in-Euc2d.is c.square_between.ensures.value
    (greatest_alike _ _ _ c.rounding_square.ensures.alike c.nearest.ensures) in
    record {
      distance = is;
      limit = IsDistanceOf-limit c.args.kind (place_in c.args.unit c.args.p) (place_in c.args.unit c.args.q)
          _ (place_in-near c.args.unit c.args.p) (place_in-near c.args.unit c.args.q) is;
    }
