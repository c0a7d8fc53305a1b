use Rattle.std.proofs.Common.{◌≡◌}
use Rattle.tk_descent.specs.Awake.{one_to}
use Rattle.tk_routes.proofs.solving.one_route.list_places.Given as goal

abbrev pub invariant-loop-k : goal.invariant-loop-k
invariant-loop-k l = l.places.items ≡ one_to l.k
