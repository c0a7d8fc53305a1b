use Rattle.std.proofs.Common.{◌≡◌, pos}
use Rattle.std.specs.Prelude.{map}
use Rattle.tk_routes.specs.Cvrps.{instance_of}
use Rattle.tk_routes.specs.Routes.{routes_cost}
use Rattle.tk_routes.proofs.Improving.ImprovedSteps.{IsImprovedTo}
use Rattle.tk_routes.proofs.solving.improving.improve_each.Given as goal

abbrev pub invariant-loop-k : goal.invariant-loop-k
invariant-loop-k l = record {
  before : l.before ≡ pos (routes_cost (instance_of l.cvrp) (map (λ r. r.items) l.initial.lists));
  after : l.after ≡ pos (routes_cost (instance_of l.cvrp) (map (λ r. r.items) l.lists));
  improved : IsImprovedTo (instance_of l.cvrp) l.max_candidates l.m (map (λ r. r.items) l.initial.lists)
      (map (λ r. r.items) l.lists) l.k l.moves l.swaps l.tests;
}
