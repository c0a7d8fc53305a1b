-- The output of `plot` for texts in memory.
use Rattle.std.specs.Prelude.{◌≡◌, ◌⊎◌, Option, ℕ, Bool, true, false, List, [], None, is_some}
use Rattle.tk_text.specs.Placed.{PlacedIs, placed_texts}
use Rattle.tk_text.specs.Problem.{ProblemIs}
use Rattle.tk_text.specs.Solution.{solution_texts}
use Rattle.tk_text.specs.Tour.{tour_texts}
use Rattle.tk_plot.specs.declared.plotted.Plotted.{Plotted}
use Rattle.tk_plot.specs.declared.plotted.Plotted.TheVariants as plotted
use Rattle.tk_plot.specs.Plot.{Claim, Drawn, IsPlot, Nothing, Output, Refused, RoutesClaim, TourClaim}
use Rattle.tk_plot.specs.Plot.{without_places}
use Rattle.tk_engines.specs.declared.fault.Fault.{Fault}
use Rattle.tk_page.specs.PageParts.{ArePageParts}
use Rattle.tk_picture.specs.declared.node_names.NodeNames.{NodeNames}
use Rattle.tk_picture.specs.declared.page.parts.Parts.{Parts}
use Rattle.tk_picture.specs.declared.picture.OutputFormat.{OutputFormat}
use Rattle.tk_picture.specs.declared.picture.OutputFormat.TheVariants as forms
use Rattle.tk_for_c.specs.Answers.{IsFaulty}
use Rattle.tk_for_c.specs.Texts.{AreWritten, HasFault, TextSays, route_status, tour_status}
use Rattle.tk_words.specs.declared.fault.TextFault.{TextFault}
use Rattle.tk_for_c.specs.declared.answer.Answer.{Answer}

-- the contents of the second text: nothing if there is none, a tour if the problem has no routing, otherwise routes
abbrev pub ClaimSays : Bool → List ℕ → ProblemIs → Claim → Type 0
ClaimSays given text p Nothing = given ≡ false
ClaimSays given text p (TourClaim cities) = (given ≡ true) × (p.routing ≡ None) × TextSays tour_texts text cities
ClaimSays given text p (RoutesClaim s) = (given ≡ true) × (is_some p.routing ≡ true) × TextSays solution_texts text s

pub record IsPlotOf (form : OutputFormat) (given : Bool) (problem claim : List ℕ) (answer : Plotted) (output : Output) :
    Type 0 where
  pub p : PlacedIs
  pub c : Claim
  pub is_problem : TextSays placed_texts problem p
  pub is_claim : ClaimSays given claim p.problem c
  pub is : IsPlot form p.places p.problem c answer output

-- 1 if the tour or the routes have a fault, otherwise 0
abbrev pub plot_status : Plotted → ℕ
plot_status plotted.Cities = 0
plot_status (plotted.Tour v) = tour_status v
plot_status (plotted.Routes v) = route_status v

-- the picture and the line that reports a fault, one of which is empty
abbrev pub picture_in : Output → List ℕ
picture_in (Drawn picture) = picture
picture_in (Refused line) = []

abbrev pub line_in : Output → List ℕ
line_in (Drawn picture) = []
line_in (Refused line) = line

-- the picture of a problem and of its tour or routes was written to one buffer, in this format, or the line that
-- reports their fault to the other
abbrev pub HoldPlot : OutputFormat → Bool → List ℕ → List ℕ → List ℕ → List ℕ → List ℕ → List ℕ → Answer → Type 0
HoldPlot form given problem claim out out' reported reported' answer =
    (done : Plotted) × (output : Output) × IsPlotOf form given problem claim done output
    × AreWritten (plot_status done) (picture_in output) out out' (line_in output) reported reported' answer

-- likewise, in an HTML page without names of nodes
abbrev pub HoldPage : Bool → List ℕ → List ℕ → List ℕ → List ℕ → List ℕ → List ℕ → Answer → Type 0
HoldPage given problem claim out out' reported reported' answer =
    (parts : Parts) × ArePageParts parts × (names : NodeNames) × (names.list.now ≡ [])
    × HoldPlot (forms.Page parts names) given problem claim out out' reported reported' answer

-- a format without names of nodes
abbrev pub IsNameless : OutputFormat → Type 0
IsNameless forms.Svg = Unit {0}
IsNameless (forms.Page parts names) = names.list.now ≡ []

-- a problem without places for its cities cannot be drawn
abbrev pub plot_misfit : PlacedIs → Option Fault
plot_misfit p = without_places p.problem.weights p.places

-- the second text is a tour text, since the problem has no routing, and has this fault
abbrev pub IsTourFault : Bool → List ℕ → PlacedIs → TextFault → Type 0
IsTourFault given claim p f = (given ≡ true) × (p.problem.routing ≡ None) × HasFault tour_texts claim f

-- the second text is a solution text, since the problem has a routing, and has this fault
abbrev pub IsSolutionFault : Bool → List ℕ → PlacedIs → TextFault → Type 0
IsSolutionFault given claim p f =
    (given ≡ true) × (is_some p.problem.routing ≡ true) × HasFault solution_texts claim f

-- the second text has the fault that the answer reports: as a tour text if the problem has no routing, otherwise as a
-- solution text
abbrev pub IsClaimRefused : Bool → List ℕ → PlacedIs → Answer → Type 0
IsClaimRefused given claim p answer =
    (given ≡ true) × (((p.problem.routing ≡ None) × IsFaulty tour_texts 2 claim answer)
    ⊎ ((is_some p.problem.routing ≡ true) × IsFaulty solution_texts 2 claim answer))
