use Rattle.std.proofs.Common.{sym, ◌∙◌, subst, pos, w64, arith, rules}
use Rattle.std.specs.Prelude.{◌<ℤ◌}
use Rattle.std.proofs.lemmas.Int.{ints, to_z-of_z}
use Rattle.tk_descent.proofs.OfferLists.Gaining.{or_found}
use Rattle.tk_descent.proofs.looks.looking.try_or.Goals as goal
use mir.Val.{SFits}

pub returns : goal.returns
returns g c =
    let m = c.args.metric.now in
    let fits : SFits w64 c.args.margin = search rules in
    or_found (g.M.Metric.distance m) (g.R.Rule.allowed c.args.rule.now (g.S.TourStore.cities c.args.tour.now))
    c.args.x c.args.y c.args.w c.args.segment.now c.offer-offer.result c.args.margin c.dist.result _ _
    (g.met.M.Metric.distance_limit m) c.requires.outside
    (sym c.covers.ensures ∙ c.if-covers.false) c.offer-offer.ensures
    (sym c.allows.ensures ∙ c.if-not-allows.false) c.requires.margin c.dist.ensures
    (subst (λ z. pos (g.M.Metric.distance m c.args.segment.now.last c.args.w) <ℤ z)
    (to_z-of_z w64 c.args.margin fits) (c.is_nearer.ensures.0 c.if-not-is_nearer.false))
    (omega (arith, c.requires.room))

pub overflow_sub-result : goal.overflow_sub-result
overflow_sub-result g c = omega (arith, ints, g.met.M.Metric.distance_limit c.args.metric.now)
