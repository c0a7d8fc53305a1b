use Rattle.std.proofs.Common.{◌≡◌, ◌∷◌, take}
use Rattle.std.specs.List.{flat_map}
use Rattle.tk_starts.proofs.merges.savings.savings_tour.Given as goal

abbrev pub invariant-loop-list : goal.invariant-loop-list
invariant-loop-list g l = l.tour.items ≡ 1 ∷ flat_map (λ x. x.items) (take l.list-index l.list-items)
