use Rattle.std.proofs.Common.{List, ℕ, ◌++◌, take}
use Rattle.tk_routes.specs.Serving.{AreServed}
use Rattle.tk_routes.proofs.checking.check.serve.Given as goal

abbrev pub invariant-loop-customer : goal.invariant-loop-customer
invariant-loop-customer l = (earlier : List ℕ) → AreServed l.initial.served earlier →
    AreServed l.served (earlier ++ take l.customer-index l.route)
