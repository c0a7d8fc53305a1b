use Rattle.tk_routes.specs.Serving.{AreMarked}
use Rattle.tk_routes.proofs.checking.check.first_missing.Given as goal

abbrev pub invariant-loop-k : goal.invariant-loop-k
invariant-loop-k l = AreMarked l.served l.k
