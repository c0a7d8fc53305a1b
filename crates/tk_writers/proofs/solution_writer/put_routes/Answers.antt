use Rattle.tk_writers.proofs.Written.LinePieces.{route_lines_take}
use Rattle.tk_writers.proofs.Pieces.Putting.{Puts-then}
use Rattle.tk_writers.proofs.solution_writer.put_routes.Goals as goal

pub loop-i-preserved : goal.loop-i-preserved
loop-i-preserved g c =
    rw (route_lines_take (λ r. r.items) c.args.routes.now c.loop-i.i c.index-routes-i.result c.as_slice.result.now
    c.loop-i-test.true c.index-routes-i.is c.as_slice.ensures.value)
    (Puts-then c.loop-i.invariant c.put_route.ensures)
