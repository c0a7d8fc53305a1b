use Rattle.std.proofs.Common.{◌≡◌, arith}
use Rattle.std.proofs.lemmas.Int.{ints}
use Rattle.tk_problem.specs.Units.{place_in}
use Rattle.tk_distance.specs.Distance.{gap}
use Rattle.tk_problem.specs.Laws.Units.{place_in-near}
use Rattle.tk_distance.specs.Laws.Planes.{whole_places, IsDistanceOf-limit}
use Rattle.tk_distance.proofs.exact.whole.rarer_between.Goals as goal

pub returns : goal.returns
returns c =
    let x : c.apart.result ≡ gap c.args.p.x c.args.q.x = omega (arith, ints, c.apart.ensures.value) in
    let y : c.apart-2.result ≡ gap c.args.p.y c.args.q.y = omega (arith, ints, c.apart-2.ensures.value) in
    let is = whole_places c.args.kind c.args.unit c.args.p c.args.q _ _ _ x y c.whole_distance.ensures in
    record {
      distance = is;
      limit = IsDistanceOf-limit c.args.kind (place_in c.args.unit c.args.p) (place_in c.args.unit c.args.q)
          _ (place_in-near c.args.unit c.args.p) (place_in-near c.args.unit c.args.q) is;
    }
