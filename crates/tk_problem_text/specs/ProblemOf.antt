-- A problem that was read, as contracts see it.
use Rattle.std.specs.Prelude.{Option, Some, None}
use Rattle.tk_problem.specs.declared.problem.Problem.{Problem}
use Rattle.tk_problem.specs.declared.routing.Routing.{Routing}
use Rattle.tk_problem.specs.declared.weights.Weights.{Weights}
use Rattle.tk_problem.specs.declared.weights.Weights.TheVariants.{Points, Lower}
use Rattle.tk_problem_text.specs.Problem.{WeightsAre, RoutingIs, ProblemIs}
use Rattle.tk_problem_text.specs.Problem as value

abbrev pub weights_are : Weights → WeightsAre
weights_are (Points kind places) = value.Points kind places
weights_are (Lower weights) = value.Lower weights.items

abbrev pub routing_is : Option Routing → Option RoutingIs
routing_is None = None
routing_is (Some r) = Some (record { capacity = r.capacity; demand = r.demand.items; depot = r.depot })

-- a problem as contracts see it
abbrev pub problem_is : Problem → ProblemIs
problem_is p = record { name = p.name.items; n = p.n; weights = weights_are p.weights; routing = routing_is p.routing }
