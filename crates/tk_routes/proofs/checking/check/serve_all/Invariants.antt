use Rattle.std.proofs.Common.{take}
use Rattle.std.specs.Prelude.{map}
use Rattle.std.specs.List.{concat}
use Rattle.tk_routes.specs.Serving.{AreServed}
use Rattle.tk_routes.proofs.checking.check.serve_all.Given as goal

abbrev pub invariant-loop-k : goal.invariant-loop-k
invariant-loop-k l = AreServed l.served (concat (map (λ r. r.items) (take l.k l.routes)))
