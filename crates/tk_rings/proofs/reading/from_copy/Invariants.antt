use Rattle.std.proofs.Common.{◌≡◌, [], take, drop}
use Rattle.tk_rings.specs.RingRoutes.{behind_copy}
use Rattle.tk_rings.proofs.reading.from_copy.Given as goal

abbrev pub invariant-loop-k : goal.invariant-loop-k
invariant-loop-k l = record {
  empty : l.elements.items ≡ [];
  same : behind_copy l.customers (take l.k l.ring) (drop l.k l.ring) ≡ behind_copy l.customers [] l.ring;
}
