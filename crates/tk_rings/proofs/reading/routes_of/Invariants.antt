use Rattle.std.proofs.Common.{◌≡◌, ◌≤◌, [], drop, length}
use Rattle.std.specs.List.{All}
use Rattle.tk_lists.specs.Solution.{lists_of}
use Rattle.tk_rings.proofs.RoutesRead.{read_on}
use Rattle.tk_rings.proofs.reading.routes_of.Given as goal

abbrev pub invariant-loop-c : goal.invariant-loop-c
invariant-loop-c l = record {
  read : read_on l.customers (lists_of l.routes.items) l.route.items (drop l.c-index l.c-items)
      ≡ read_on l.customers [] [] l.c-items;
  filled : All (λ r. 1 ≤ length r) (lists_of l.routes.items);
}
