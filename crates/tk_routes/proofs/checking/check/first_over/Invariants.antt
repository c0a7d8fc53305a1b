use Rattle.std.proofs.Common.{take}
use Rattle.std.specs.Prelude.{map}
use Rattle.std.specs.List.{All}
use Rattle.tk_routes.specs.Cvrps.{instance_of}
use Rattle.tk_routes.specs.Routes.{IsLight}
use Rattle.tk_routes.proofs.checking.check.first_over.Given as goal

abbrev pub invariant-loop-k : goal.invariant-loop-k
invariant-loop-k l = All (IsLight (instance_of l.cvrp)) (map (λ r. r.items) (take l.k l.routes))
