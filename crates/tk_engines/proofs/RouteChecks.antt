-- The routing of a problem that has an instance.
use Rattle.std.proofs.Common.{◌≡◌, Option, Some, None, refl}
use Rattle.std.specs.Prelude.{IsSomeAnd, if◌then◌else◌, is_none}
use Rattle.tk_problem.specs.declared.problem.Problem.{Problem}
use Rattle.tk_problem.specs.declared.routing.Routing.{Routing}
use Rattle.tk_problem_text.specs.ProblemOf.{problem_is, routing_is}
use Rattle.tk_routes.specs.Instance.{Instance, IsInstanceOf}
use Rattle.tk_engines.specs.RouteCheck.{without_routing}
use Rattle.tk_engines.specs.declared.fault.Fault.TheVariants.{WrongType}

fits_of : (o : Option Routing) (P : Routing → Type 0) → IsSomeAnd o P →
    (if is_none (routing_is o) then Some WrongType else None) ≡ None
fits_of (Some r) P some = refl
fits_of None P some = elim some [ ]

pub routing_fits : (p : Problem) (i : Instance) → IsInstanceOf p i → without_routing (problem_is p) ≡ None
routing_fits p i is = fits_of p.routing _ is.routing
