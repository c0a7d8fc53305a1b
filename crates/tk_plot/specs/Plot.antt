-- The input and the output of `plot`.
--     ReadsPlaced places      the problem is read, with these places of its cities if its weights are explicit
--     plot_task form places given      the task, given the format of a picture, these places, and whether there is a
--         second text
--     ReadsClaim given      the second text is read as a tour if the problem has no routing, otherwise as a solution
--     WritesOutput      a picture goes to one sink, or the line with a fault to the other
use Rattle.std.specs.Prelude.{◌≡◌, ℕ, ◌⊎◌, Bool, true, false, List, [], Option, Some, None, Ok, Err, IsSomeAnd}
use Rattle.std.specs.Prelude.{IfErr, MatchOption, Result, length, option_map, is_some}
use Rattle.std.specs.Int.RustNames.{unsigned_abs}
use Rattle.tk_problem.specs.declared.point.Point.{Point}
use Rattle.tk_words.specs.declared.sources.source.Source as sources
use Rattle.tk_writers.specs.declared.output.sink.Sink as sinks
use Rattle.tk_problem_text.specs.declared.placed_problem.GivenPlaces.{GivenPlaces}
use Rattle.tk_problem_text.specs.declared.placed_problem.PlacesOrigin.{PlacesOrigin}
use Rattle.tk_problem_text.specs.Placed.{placed_texts}
use Rattle.tk_problem_text.specs.Problem.{ProblemIs, RoutingIs, WeightsAre}
use Rattle.tk_problem_text.specs.Problem as value
use Rattle.tk_problem.specs.PlacesOf.{places_of}
use Rattle.tk_writers.specs.Puts.{Writes}
use Rattle.tk_writers.specs.Sinks.{IsBroken}
use Rattle.tk_lists.specs.Solution.{Solution}
use Rattle.tk_tour.specs.Tour.{tour_length}
use Rattle.tk_tour.specs.Verdict.{IsVerdict}
use Rattle.tk_tour.specs.declared.verdict.Verdict.{Verdict}
use Rattle.tk_tour.specs.declared.verdict.Verdict.TheVariants as verdicts
use Rattle.tk_routes.specs.Instance.{Instance}
use Rattle.tk_routes.specs.RouteVerdicts.{IsRouteVerdict}
use Rattle.tk_routes.specs.declared.checking.verdict.RouteVerdict.{RouteVerdict}
use Rattle.tk_routes.specs.declared.checking.verdict.RouteVerdict.TheVariants as route_verdicts
use Rattle.tk_outcomes.specs.TourOutcomes.{verdict_line}
use Rattle.tk_engines.specs.ReadProblems.{read_distance}
use Rattle.tk_engines.specs.Engine.{AtWrite, EndsByProblem, HasRead, IsRead, IsUnread, IsUnwritten, NoClash, Reading}
use Rattle.tk_engines.specs.Engine.{Reads, ReadsSolution, ReadsTour, Task, UnlessWrite, Writing}
use Rattle.tk_outcomes.specs.Lines.RouteLine.{route_verdict_line}
use Rattle.tk_engines.specs.ReadProblems.{instance_in}
use Rattle.tk_engines.specs.declared.fault.Fault.{Fault}
use Rattle.tk_engines.specs.declared.fault.Fault.TheVariants as faults
use Rattle.tk_engines.specs.declared.fault.Fault.TheVariants.{NoPlaces, WrongNames}
use Rattle.tk_picture.specs.Drawings.{ATour, Cities, Drawing, SomeRoutes}
use Rattle.tk_picture.specs.declared.extent.Extent.{Extent}
use Rattle.tk_plot.specs.declared.plotted.Plotted.{Plotted}
use Rattle.tk_plot.specs.declared.plotted.Plotted.TheVariants as plotted
use Rattle.tk_picture.specs.declared.view.View.{View}
use Rattle.tk_picture.specs.Extents.{IsExtent}
use Rattle.tk_picture.specs.declared.picture.OutputFormat.{OutputFormat}
use Rattle.tk_picture.specs.Pictures.{form_text, names_fit}

-- ---- input

-- the problem is read, and its text gives these places of the cities if the weights are explicit
abbrev pub ReadsPlaced : {S : Type 0} → sources.Ghosts S → S → S → Option GivenPlaces → Reading ProblemIs
ReadsPlaced source old new places (Ok problem) =
    IsRead placed_texts source old new (record { problem = problem; places = places })
ReadsPlaced source old new places (Err f) = Reads placed_texts faults.Problem source old new (Err f)

-- nothing, the cities of a tour, or routes and their cost
pub data Claim : Type 0 where
  Nothing : Claim
  TourClaim : (cities : List ℕ) → Claim
  RoutesClaim : (solution : Solution) → Claim

-- the second text is read as a tour if the problem has no routing, otherwise as a solution; if there is no second text,
-- its source is not read
abbrev pub ReadsClaim : {S : Type 0} → Bool → sources.Ghosts S → S → S → ProblemIs → Reading Claim
ReadsClaim given source old new problem (Ok Nothing) = (given ≡ false) × IsUnread source old new
ReadsClaim given source old new problem (Ok (TourClaim cities)) =
    (given ≡ true) × (problem.routing ≡ None) × ReadsTour source old new (Ok cities)
ReadsClaim given source old new problem (Ok (RoutesClaim s)) =
    (given ≡ true) × (is_some problem.routing ≡ true) × ReadsSolution source old new (Ok s)
ReadsClaim given source old new problem (Err f) =
    (given ≡ true) × MatchOption problem.routing (ReadsTour source old new (Err f))
    (λ _. ReadsSolution source old new (Err f))

-- ---- output

-- a picture, or the line with the first fault of a tour or of routes
pub data Output : Type 0 where
  Drawn : (picture : List ℕ) → Output
  Refused : (line : List ℕ) → Output

-- the places of the cities in a picture: those that the distances depend on, otherwise those that the text gives
abbrev pub drawn_places : WeightsAre → Option GivenPlaces → List Point
drawn_places (value.Points kind points) places = points
drawn_places (value.Lower weights) (Some given) = given.points
drawn_places (value.Lower weights) None = []

-- the section that gives the places, if the distances do not depend on them
abbrev pub origin_of : Option GivenPlaces → Option PlacesOrigin
origin_of places = option_map (λ given. given.origin) places

-- the demands of the nodes; empty without a routing
abbrev pub demands_in : Option RoutingIs → List ℕ
demands_in None = []
demands_in (Some r) = r.demand

-- a picture of a problem in a format: its cities, the lines through them, its depot and its demands
pub record IsPicture (form : OutputFormat) (places : Option GivenPlaces) (p : ProblemIs) (drawing : Drawing)
    (text : List ℕ) : Type 0 where
  pub extent : Extent
  pub is_extent : IsExtent (drawn_places p.weights places) extent
  pub is : text ≡ form_text form extent (drawn_places p.weights places) p.name (origin_of places) drawing
      (option_map (λ r. r.depot) p.routing) (demands_in p.routing)

-- a tour is drawn, or rejected with the line of its verdict
abbrev pub IsTourOutput : OutputFormat → Option GivenPlaces → ProblemIs → List ℕ → Verdict → Output → Type 0
IsTourOutput form places p cities verdicts.Tour (Drawn text) =
    IsPicture form places p (ATour cities (tour_length (read_distance p.weights) cities)) text
IsTourOutput form places p cities verdicts.Tour (Refused line) = ⊥
IsTourOutput form places p cities verdict (Drawn text) = ⊥
IsTourOutput form places p cities verdict (Refused line) =
    line ≡ verdict_line p.n (read_distance p.weights) cities verdict

-- routes are drawn, or rejected with the line of their verdict
abbrev pub IsRouteOutput : OutputFormat → Option GivenPlaces → ProblemIs → Instance → List (List ℕ) → RouteVerdict →
    Output → Type 0
IsRouteOutput form places p i routes (route_verdicts.Valid count cost) (Drawn text) =
    IsPicture form places p (SomeRoutes i routes count (unsigned_abs cost)) text
IsRouteOutput form places p i routes (route_verdicts.Valid count cost) (Refused line) = ⊥
IsRouteOutput form places p i routes verdict (Drawn text) = ⊥
IsRouteOutput form places p i routes verdict (Refused line) = line ≡ route_verdict_line verdict

-- what was drawn, with the true verdict on the tour or the routes
abbrev pub IsPlot : OutputFormat → Option GivenPlaces → ProblemIs → Claim → Plotted → Output → Type 0
IsPlot form places p Nothing plotted.Cities (Drawn text) = IsPicture form places p Cities text
IsPlot form places p (TourClaim cities) (plotted.Tour verdict) output =
    IsVerdict p.n cities verdict × IsTourOutput form places p cities verdict output
IsPlot form places p (RoutesClaim s) (plotted.Routes verdict) output =
    IsSomeAnd p.routing (λ r. IsRouteVerdict (instance_in p r) s.0 s.1 verdict
    × IsRouteOutput form places p (instance_in p r) s.0 verdict output)
IsPlot form places p _ _ _ = ⊥

-- a problem with explicit weights cannot be drawn if its text does not give places
abbrev pub without_places : WeightsAre → Option GivenPlaces → Option Fault
without_places (value.Points kind points) places = None
without_places (value.Lower weights) (Some given) = None
without_places (value.Lower weights) None = Some NoPlaces

-- this reason, or that a page has names, but not one for each of n nodes
abbrev pub or_wrong_names : Option Fault → Bool → ℕ → Option Fault
or_wrong_names (Some f) fit n = Some f
or_wrong_names None true n = None
or_wrong_names None false n = Some (WrongNames n)

-- why a problem cannot be drawn in a format, if it cannot
abbrev pub undrawable : OutputFormat → Option GivenPlaces → ProblemIs → Option Fault
undrawable form places p = or_wrong_names (without_places p.weights places) (names_fit form p.n) p.n

-- the task of drawing; only the check of a second text takes memory
abbrev pub plot_task : OutputFormat → Option GivenPlaces → Bool → Task Claim Plotted Output
plot_task form places given = record {
  misfit = undrawable form places;
  IsClash = NoClash;
  takes_memory = given;
  Gives = IsPlot form places;
}

-- the two sinks
module _ {W T : Type 0} (outs : sinks.Ghosts W) (reports : sinks.Ghosts T) (out out' : W) (reported reported' : T) where
  -- a picture goes to one sink, or a line to the other
  abbrev pub WritesOutput : Writing Output
  WritesOutput r (Drawn picture) =
      Writes outs out out' r picture × IsUnwritten reports reported reported'
  WritesOutput r (Refused line) =
      IsUnwritten outs out out' × Writes reports reported reported' r line

  -- neither has taken a byte
  abbrev pub AreUntouched : Type 0
  AreUntouched = IsUnwritten outs out out' × IsUnwritten reports reported reported'

-- how drawing ends, given the two sources and the two sinks before and after it
abbrev pub Plots : {P C W T : Type 0} → sources.Ghosts P → sources.Ghosts C → sinks.Ghosts W → sinks.Ghosts T →
    OutputFormat → Bool → P × C × W × T → P × C × W × T → Result Plotted Fault → Type 0
Plots problems claims outs reports form given (problem, claim, out, reported) (problem', claim', out', reported') result
    =
    (places : Option GivenPlaces)
    × EndsByProblem (plot_task form places given) (ReadsPlaced problems problem problem' places)
    (ReadsClaim given claims claim claim') (WritesOutput outs reports out out' reported reported') result

-- a write to one of two sinks failed
abbrev pub HasFailed : Bool → Bool → Type 0
HasFailed out reported = (out ≡ true) ⊎ (reported ≡ true)

-- ---- after the problem has been read

-- how drawing the second text ends, given its source and the two sinks before and after it
pub record PlotsClaim {C W T : Type 0} (claims : sources.Ghosts C) (outs : sinks.Ghosts W) (reports : sinks.Ghosts T)
    (form : OutputFormat) (places : Option GivenPlaces) (problem : ProblemIs) (old new : C × W × T)
    (result : Result Plotted Fault) : Type 0 where
  pub ends : EndsByProblem (plot_task form places true) (HasRead problem) (ReadsClaim true claims old.0 new.0)
      (WritesOutput outs reports old.1 new.1 old.2 new.2) result
  pub quiet : IfErr result (UnlessWrite (AreUntouched outs reports old.1 new.1 old.2 new.2))
  pub failed : IfErr result (AtWrite (IsBroken outs new.1 ⊎ IsBroken reports new.2))

-- an output that satisfies Fits is written, or writing it breaks off
abbrev pub WritesSome : {T : Type 0} → (T → Type 0) → (T → Type 0) → Type 0
WritesSome {T} Fits Written = (output : T) × (Fits output × Written output)

-- the points of the cities of a problem in a picture
pub record ArePointsOf (places : Option GivenPlaces) (p : ProblemIs) (points : List Point) : Type 0 where
  pub are : points ≡ drawn_places p.weights places
  pub fits : without_places p.weights places ≡ None
  pub size : length points ≡ p.n

-- a view of the cities of a problem that can be drawn in a format
pub record IsViewOf (form : OutputFormat) (places : Option GivenPlaces) (p : ProblemIs) (v : View) : Type 0 where
  pub points : places_of v.places ≡ drawn_places p.weights places
  pub extent : IsExtent (places_of v.places) v.extent
  pub fits : undrawable form places p ≡ None
  pub size : length (places_of v.places) ≡ p.n
