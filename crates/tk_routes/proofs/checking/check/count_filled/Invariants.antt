use Rattle.std.proofs.Common.{◌≡◌, ◌≤◌, length, take}
use Rattle.std.specs.Prelude.{map}
use Rattle.tk_routes.specs.RouteVerdicts.{filled_of}
use Rattle.tk_routes.proofs.checking.check.count_filled.Given as goal

abbrev pub invariant-loop-route : goal.invariant-loop-route
invariant-loop-route l = record {
  count_is : l.count ≡ length (filled_of (map (λ r. r.items) (take l.route-index l.routes)));
  few : l.count ≤ l.route-index;
}
