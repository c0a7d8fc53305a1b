use Rattle.std.proofs.Common.{arith}
use Rattle.tk_routes.proofs.ServedCustomers.{AreServedOnce-short}
use Rattle.tk_picture.proofs.EachRoute.{put_one_more, served_at}
use Rattle.tk_picture.proofs.page.table.put_rows.Goals as goal

pub put_filled-requires : goal.put_filled-requires
put_filled-requires g c =
    let one = served_at c.args.routes.now c.loop-route.route-index c.loop-route-test.true c.route-item.is
    c.deref.ensures.value c.requires.once in
    record {
      known = one.known;
      few = omega (arith, AreServedOnce-short _ c.deref.result.now one, c.args.cvrp.now.few);
    }

pub loop-route-preserved : goal.loop-route-preserved
loop-route-preserved g c =
    put_one_more c.loop-route-test.true c.route-item.is c.deref.ensures.value c.loop-route.invariant
    c.put_filled.ensures
