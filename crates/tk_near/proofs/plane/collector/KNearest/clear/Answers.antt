use Rattle.std.proofs.Common.{◌≡◌, refl}
use Rattle.std.proofs.lemmas.List.Elements.{All-replicate}
use Rattle.tk_near.specs.Keeping.{rank, empty_slot}
use Rattle.tk_near.proofs.KeptCandidates.{Climbing-replicate}
use Rattle.tk_near.proofs.plane.collector.KNearest.clear.Goals as goal

pub invariant_of-self-clause-order : goal.invariant_of-self-clause-order
invariant_of-self-clause-order c =
    rw (c.fill.ensures.items (λ y e. e)) (Climbing-replicate rank c.args.self.now.kept.len empty_slot)

pub invariant_of-self-clause-vacant : goal.invariant_of-self-clause-vacant
invariant_of-self-clause-vacant c =
    rw (c.fill.ensures.items (λ y e. e))
    (λ j d a l. All-replicate (λ y. y ≡ empty_slot) c.args.self.now.kept.len empty_slot refl j d l)
