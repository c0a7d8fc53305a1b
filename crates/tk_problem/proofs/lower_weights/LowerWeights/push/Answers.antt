use Rattle.std.proofs.Common.{sym, arith}
use Rattle.tk_problem.proofs.WeightsSoFar.{next_pair, so_far_push}
use Rattle.std.proofs.lemmas.Grind.{common_steps, elements}
use Rattle.tk_problem.proofs.lower_weights.LowerWeights.push.Goals as goal

pub returns : goal.returns
returns c = rw (sym c.self.view_is) (λ f n ws h.
    rw (c.advance.ensures, c.lower_index-index.ensures) (so_far_push _ f n ws c.args.weight _
    (next_pair _ f n ws c.place.result h c.place.ensures (rw (sym c.self.view_is) at c.requires.pair))))

pub place-requires : goal.place-requires
place-requires c = grind (arith, common_steps)

pub lower_index-index-requires : goal.lower_index-index-requires
lower_index-index-requires c = grind (arith, common_steps)

pub index_mut-requires : goal.index_mut-requires
index_mut-requires c = grind (arith, common_steps)

pub advance-requires : goal.advance-requires
advance-requires c = grind (arith, common_steps)

pub invariant_of-self : goal.invariant_of-self
invariant_of-self c = grind (arith, elements)
