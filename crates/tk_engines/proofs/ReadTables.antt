-- The table of a problem has the distances that its text says, and its routing is the instance that the text gives.
use Rattle.std.proofs.Common.{◌≡◌, ℕ, List, Option, Some, None, refl, ap, ◌∙◌, subst}
use mathlib.Core.Path.{fun_ext}
use Rattle.std.specs.Prelude.{IsSomeAnd, MatchOption}
use Rattle.tk_distance.specs.Weights.{problem_distance}
use Rattle.tk_problem.specs.declared.problem.Problem.{Problem}
use Rattle.tk_problem.specs.declared.routing.Routing.{Routing}
use Rattle.tk_problem.specs.declared.weights.Weights.{Weights}
use Rattle.tk_problem.specs.declared.weights.Weights.TheVariants.{Points, Lower}
use Rattle.tk_problem_text.specs.ProblemOf.{problem_is, routing_is, weights_are}
use Rattle.tk_problem_text.specs.Problem.{RoutingIs}
use Rattle.tk_routes.specs.Instance.{Instance, IsInstanceOf}
use Rattle.tk_engines.specs.ReadProblems.{instance_in, read_distance}

pub read_distance_is : (w : Weights) → problem_distance w ≡ read_distance (weights_are w)
read_distance_is (Points kind places) = refl
read_distance_is (Lower weights) = refl

pub distances_read : (d : ℕ → ℕ → ℕ) (w : Weights) → ((a b : ℕ) → d a b ≡ problem_distance w a b) →
    d ≡ read_distance (weights_are w)
distances_read d w is = fun_ext (λ a. fun_ext (is a)) ∙ read_distance_is w

abbrev instance : ℕ → (ℕ → ℕ → ℕ) → List ℕ → ℕ → ℕ → Instance
instance n d demands q depot = record { size = n; distance = d; demands = demands; capacity = q; depot = depot }

-- instances that are the same part by part
instance_same : (i j : Instance) → i.size ≡ j.size → i.distance ≡ j.distance → i.demands ≡ j.demands →
    i.capacity ≡ j.capacity → i.depot ≡ j.depot → i ≡ j
instance_same i j size distance demands capacity depot =
    ap (λ n. instance n i.distance i.demands i.capacity i.depot) size
    ∙ ap (λ d. instance j.size d i.demands i.capacity i.depot) distance
    ∙ ap (λ l. instance j.size j.distance l i.capacity i.depot) demands
    ∙ ap (λ q. instance j.size j.distance j.demands q i.depot) capacity
    ∙ ap (instance j.size j.distance j.demands j.capacity) depot

-- what holds of an instance of a problem holds of the one that its text gives
instance_read_of : (p : Problem) (o : Option Routing) (i : Instance) (N : Type 0) (P : Instance → Type 0)
    → i.size ≡ p.n → i.distance ≡ read_distance (weights_are p.weights)
    → IsSomeAnd o (λ r. (i.demands ≡ r.demand.items) × (i.capacity ≡ r.capacity) × (i.depot ≡ r.depot)) → P i
    → MatchOption (routing_is o) N (λ r. P (instance_in (problem_is p) r))
instance_read_of p (Some r) i N P size distance routing holds =
    subst P (instance_same i _ size distance routing.0 routing.1 routing.2) holds
instance_read_of p None i N P size distance routing holds = elim routing [ ]

pub instance_read : (p : Problem) (i : Instance) (N : Type 0) (P : Instance → Type 0) → IsInstanceOf p i → P i
    → MatchOption (routing_is p.routing) N (λ r. P (instance_in (problem_is p) r))
instance_read p i N P is holds =
    instance_read_of p p.routing i N P is.size (distances_read i.distance p.weights is.distance) is.routing holds

-- the same, where the problem has a routing
some_of : (o : Option RoutingIs) (P : RoutingIs → Type 0) → MatchOption o ⊥ P → IsSomeAnd o P
some_of (Some r) P holds = holds
some_of None P holds = elim holds [ ]

pub some_instance_read : (p : Problem) (i : Instance) (P : Instance → Type 0) → IsInstanceOf p i → P i
    → IsSomeAnd (routing_is p.routing) (λ r. P (instance_in (problem_is p) r))
some_instance_read p i P is holds = some_of (routing_is p.routing) _ (instance_read p i ⊥ P is holds)

-- a problem without a routing
pub unrouted : (o : Option Routing) (N : Type 0) (P : RoutingIs → Type 0) → o ≡ None → N →
    MatchOption (routing_is o) N P
unrouted o N P none holds = rw none holds
