use Rattle.std.proofs.Common.{rules, ◌∙◌, ap, w64}
use Rattle.std.proofs.lemmas.Int.{to_z-of_z}
use Rattle.std.specs.Int.RustNames.{unsigned_abs}
use mir.Val.{SFits}
use Rattle.tk_routes.proofs.Improving.RowsRead.{rows_pushed}
use Rattle.tk_routes.proofs.solving.distance_matrix.DistanceMatrix.of.Goals as goal

pub loop-b-preserved : goal.loop-b-preserved
loop-b-preserved g c =
    let fits : SFits w64 c.dist.result = search rules in
    let p = rows_pushed (g.M.Metric.distance c.args.metric.now) c.size-size.result c.loop-a.a c.loop-b.b
    _ c.loop-b.rows.items c.push.new.self.items c.in_ok-push.ensures.items c.loop-b.invariant.rows
    c.loop-b.invariant.long c.loop-b-test.true
    (ap unsigned_abs (to_z-of_z w64 c.dist.result fits ∙ c.dist.ensures)) in
    record { long = p.0; rows = p.1 }
