use Rattle.std.proofs.Common.{◌≡◌, ◌++◌, take, drop}
use Rattle.tk_lists.specs.Solution.{lists_of}
use Rattle.tk_near.specs.Keeping.{insert_by}
use Rattle.tk_rings.specs.RingRoutes.{first_of}
use Rattle.tk_rings.proofs.reading.place.Given as goal

abbrev pub invariant-loop-k : goal.invariant-loop-k
invariant-loop-k l = record {
  same : l.routes.items ≡ l.fn.routes.items;
  placed : insert_by first_of l.route.items (lists_of l.routes.items)
      ≡ lists_of (take l.k l.routes.items) ++ insert_by first_of l.route.items (lists_of (drop l.k l.routes.items));
}
