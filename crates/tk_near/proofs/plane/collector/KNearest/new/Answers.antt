use Rattle.std.proofs.Common.{◌≡◌, refl}
use Rattle.std.proofs.lemmas.List.Elements.{All-replicate}
use Rattle.tk_near.specs.Keeping.{rank, empty_slot}
use Rattle.tk_near.proofs.KeptCandidates.{Climbing-replicate}
use Rattle.tk_near.proofs.plane.collector.KNearest.new.Goals as goal

pub invariant_of-result-clause-order : goal.invariant_of-result-clause-order
invariant_of-result-clause-order c =
    rw (c.in_ok-kept.ensures.items_if_clones_equal (λ y e. e)) (Climbing-replicate rank c.args.width empty_slot)

pub invariant_of-result-clause-vacant : goal.invariant_of-result-clause-vacant
invariant_of-result-clause-vacant c =
    rw (c.in_ok-kept.ensures.items_if_clones_equal (λ y e. e))
    (λ j d a l. All-replicate (λ y. y ≡ empty_slot) c.args.width empty_slot refl j d l)
