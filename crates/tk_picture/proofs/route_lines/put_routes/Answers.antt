use Rattle.tk_picture.proofs.EachRoute.{put_one_more, served_at}
use Rattle.tk_picture.proofs.route_lines.put_routes.Goals as goal

pub put_route-requires-clause-known : goal.put_route-requires-clause-known
put_route-requires-clause-known g c =
    (served_at c.args.routes.now c.loop-route.route-index c.loop-route-test.true c.route-item.is
    c.deref.ensures.value c.requires.1).known

pub loop-route-preserved : goal.loop-route-preserved
loop-route-preserved g c =
    put_one_more c.loop-route-test.true c.route-item.is c.deref.ensures.value c.loop-route.invariant
    c.put_route.ensures
