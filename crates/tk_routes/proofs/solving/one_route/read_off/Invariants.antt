use Rattle.std.proofs.Common.{◌≡◌, take}
use Rattle.std.specs.Prelude.{map}
use Rattle.tk_routes.specs.ImprovedRoutes.{customer_at}
use Rattle.tk_routes.proofs.solving.one_route.read_off.Given as goal

abbrev pub invariant-loop-place : goal.invariant-loop-place
invariant-loop-place l = l.customers.items ≡ map (customer_at l.route) (take l.place-index l.place-items)
