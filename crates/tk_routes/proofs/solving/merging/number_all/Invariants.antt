use Rattle.std.proofs.Common.{◌≡◌, ◌++◌, take, drop}
use Rattle.std.specs.Prelude.{map}
use Rattle.tk_routes.specs.Instance.{customer_of}
use Rattle.tk_routes.proofs.solving.merging.number_all.Given as goal

abbrev pub invariant-loop-list : goal.invariant-loop-list
invariant-loop-list l =
    map (λ r. r.items) l.lists ≡ map (map (customer_of l.depot))
    (take l.list-index (map (λ r. r.items) l.initial.lists)) ++ drop l.list-index (map (λ r. r.items) l.initial.lists)
