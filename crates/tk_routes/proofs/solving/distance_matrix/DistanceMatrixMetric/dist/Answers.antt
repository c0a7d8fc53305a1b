use Rattle.std.proofs.Common.{◌≡◌, ◌<◌, ◌^◌, arith, w64, ℕ, ◌∙◌, ap, pos, sym, subst}
use Rattle.std.proofs.lemmas.Int.{to_z_pos}
use Rattle.tk_distance.specs.Cities.{IsCity}
use Rattle.tk_routes.proofs.Improving.RowsRead.{row_at}
use Rattle.tk_routes.proofs.solving.distance_matrix.DistanceMatrixMetric.dist.Goals as goal

pub returns : goal.returns
returns g c =
    let s = c.args.self.now in
    let a : IsCity s.size c.args.a = subst (λ (n : ℕ). IsCity n c.args.a) (sym s.whole) c.requires.a in
    let b : IsCity s.size c.args.b = subst (λ (n : ℕ). IsCity n c.args.b) (sym s.whole) c.requires.b in
    let e : c.index.result.now ≡ g.M.Metric.distance s.metric.now c.args.a c.args.b = c.index.ensures
    ∙ row_at (g.M.Metric.distance s.metric.now) s.size c.args.a c.args.b c.index.result.now s.rows.items s.each
    s.full a b in
    let limit = g.met.M.Metric.distance_limit s.metric.now c.args.a c.args.b in
    let small : c.index.result.now < 2 ^ 63 = omega (arith, e, limit) in
    to_z_pos w64 c.index.result.now small ∙ ap pos e
