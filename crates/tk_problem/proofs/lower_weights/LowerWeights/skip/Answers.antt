use Rattle.std.proofs.Common.{◌≡◌, ◌<◌, length, IfSome, sym, subst, arith}
use Rattle.std.specs.List.{slice_get}
use Rattle.tk_problem.specs.WeightsSoFar.{Filling, IsSoFar}
use Rattle.tk_problem.proofs.WeightsSoFar.{so_far_skip}
use Rattle.std.proofs.lemmas.Grind.{common_steps, elements}
use Rattle.tk_problem.proofs.lower_weights.LowerWeights.skip.Goals as goal

pub returns : goal.returns
returns c = λ f n ws w h.
    let s : Filling = record { places = c.self.inside.places; weights = c.self.inside.weights.items } in
    let so_far : IsSoFar s f n ws = subst (λ t. IsSoFar t f n ws) (sym c.self.view_is) h in
    let on = subst (λ (t : Filling). IfSome (slice_get t.places 0) (λ q. q.row ≡ q.column)) (sym c.self.view_is)
    c.requires.diagonal in
    let some = subst (λ (t : Filling). 0 < length t.places) (sym c.self.view_is) c.requires.more in
    rw c.advance.ensures (so_far_skip s f n ws w so_far some on)

pub advance-requires : goal.advance-requires
advance-requires c = grind (arith, common_steps)

pub invariant_of-self : goal.invariant_of-self
invariant_of-self c = grind (arith, elements)
