-- What is drawn or reported, by what a problem's text gives.
use Rattle.std.proofs.Common.{◌≡◌, ℕ, List, Option, Some, None, true, refl}
use Rattle.std.proofs.Common.{length, ap, subst}
use Rattle.std.specs.Prelude.{ℤ, IsSomeAnd, option_map, is_some}
use Rattle.std.specs.List.{concat}
use Rattle.tk_problem.specs.declared.problem.Problem.{Problem}
use Rattle.tk_problem.specs.declared.routing.Routing.{Routing}
use Rattle.tk_problem_text.specs.declared.placed_problem.GivenPlaces.{GivenPlaces}
use Rattle.tk_problem_text.specs.ProblemOf.{problem_is, routing_is, weights_are}
use Rattle.tk_distance.specs.Weights.{problem_distance}
use Rattle.tk_tour.specs.Tour.{IsTour, tour_length}
use Rattle.tk_tour.specs.declared.verdict.Verdict.{Verdict}
use Rattle.tk_tour.specs.declared.verdict.Verdict.TheVariants as verdicts
use Rattle.tk_tour.proofs.Tours.{HoldsOnce-tour}
use Rattle.tk_routes.specs.Instance.{Instance, customer_count}
use Rattle.tk_routes.specs.RouteVerdicts.{AreServedOnce, filled_of}
use Rattle.tk_routes.specs.Routes.{AreRoutes}
use Rattle.tk_routes.specs.declared.checking.verdict.RouteVerdict.{RouteVerdict}
use Rattle.tk_routes.specs.declared.checking.verdict.RouteVerdict.TheVariants as route_verdicts
use Rattle.tk_routes.proofs.FilledRoutes.{concat-filled}
use Rattle.tk_outcomes.specs.TourOutcomes.{verdict_line}
use Rattle.tk_engines.specs.ReadProblems.{read_distance}
use Rattle.tk_outcomes.specs.Lines.RouteLine.{route_verdict_line}
use Rattle.tk_tour.proofs.CitiesOfTours.{cities_of_tour}
use Rattle.tk_engines.proofs.ReadTables.{read_distance_is}
use Rattle.tk_picture.specs.declared.picture.OutputFormat.{OutputFormat}
use Rattle.tk_picture.specs.declared.picture.Picture.{Picture}
use Rattle.tk_picture.specs.declared.subject.Subject.{Subject}
use Rattle.tk_picture.specs.declared.view.View.{View}
use Rattle.tk_picture.specs.Pictures.{drawing_of, text_in}
use Rattle.tk_plot.specs.Plot.{Refused, IsPicture, IsRouteOutput, IsTourOutput, IsViewOf, demands_in, origin_of}

depot_read : (o : Option Routing) → option_map (λ r. r.depot) (routing_is o) ≡ option_map (λ r. r.depot) o
depot_read None = refl
depot_read (Some r) = refl

-- a picture of a problem's view is one of the problem
pub picture_drawn : (form : OutputFormat) (places : Option GivenPlaces) (p : Problem) (picture : Picture) (v : View)
    (subject : Subject)
    → IsViewOf form places (problem_is p) v → picture.name.now ≡ p.name.items → picture.origin ≡ origin_of places
    → picture.view ≡ v → picture.subject ≡ subject → picture.depot ≡ option_map (λ r. r.depot) p.routing
    → picture.demands.now ≡ demands_in (routing_is p.routing)
    → IsPicture form places (problem_is p) (drawing_of subject) (text_in form picture)
picture_drawn form places p picture v subject is name origin view drawn depot demands =
    record {
      extent = v.extent;
      is_extent = rw is.points at is.extent;
      is = rw (view, is.points, name, origin, drawn, depot, depot_read p.routing, demands);
    }

-- the length by a problem is that by its text
pub length_read : (p : Problem) (cities : List ℕ) →
    tour_length (problem_distance p.weights) cities ≡ tour_length (read_distance (weights_are p.weights)) cities
length_read p cities = ap (λ d. tour_length d cities) (read_distance_is p.weights)

-- a verdict that is no tour is reported
pub tour_reported : (form : OutputFormat) (places : Option GivenPlaces) (p : Problem) (cities : List ℕ) (v : Verdict)
    → (v ≡ verdicts.Tour → ⊥)
    → IsTourOutput form places (problem_is p) cities v
    (Refused (verdict_line p.n (problem_distance p.weights) cities v))
tour_reported form places p cities verdicts.Tour fault = fault refl
tour_reported form places p cities v fault = ap (λ d. verdict_line p.n d cities v) (read_distance_is p.weights)

pub routes_reported : (form : OutputFormat) (places : Option GivenPlaces) (p : Problem) (i : Instance)
    (routes : List (List ℕ)) (v : RouteVerdict)
    → ((count : ℕ) (cost : ℤ) → v ≡ route_verdicts.Valid count cost → ⊥)
    → IsRouteOutput form places (problem_is p) i routes v (Refused (route_verdict_line v))
routes_reported form places p i routes (route_verdicts.Valid count cost) fault = fault count cost refl
routes_reported form places p i routes _ fault = refl

-- no customer stands twice on valid routes
pub served_once : (i : Instance) (routes : List (List ℕ)) → AreRoutes i (filled_of routes) →
    AreServedOnce (customer_count i) (concat routes)
served_once i routes are =
    let tour : IsTour (customer_count i) (concat routes) =
    subst (λ (l : List ℕ). IsTour (customer_count i) l) (concat-filled routes) are.once in
    record {
      known = cities_of_tour (customer_count i) (customer_count i) (concat routes) refl tour;
      once = HoldsOnce-tour (customer_count i) (concat routes) tour;
    }

-- a problem with an instance has a routing
pub routed_of : (o : Option Routing) (P : Routing → Type 0) → IsSomeAnd o P → is_some (routing_is o) ≡ true
routed_of (Some r) P some = refl
routed_of None P some = elim some [ ]
