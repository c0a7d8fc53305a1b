use Rattle.std.proofs.Common.{arith, rules}
use Rattle.std.proofs.lemmas.Grind.{common_steps}
use Rattle.tk_descent.proofs.OfferLists.Gaining.{difference_fits}
use Rattle.tk_descent.proofs.looks.looking.try_two.Goals as goal

pub overflow_sub-result : goal.overflow_sub-result
overflow_sub-result g c =
    let near = g.met.M.Metric.distance_limit c.args.metric.now in
    difference_fits _ _ _ _ _ _ c.requires.margin c.dist.ensures (near _ _) (near _ _) (near _ _) (near _ _)

pub returns : goal.returns
returns g c = grind (arith, common_steps)

pub returns-then-not-is_nearer : goal.returns-then-not-is_nearer
returns-then-not-is_nearer g c = search rules
