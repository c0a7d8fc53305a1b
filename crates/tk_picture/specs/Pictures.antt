-- A picture and its text, as contracts see them.
use Rattle.std.specs.Prelude.{ℕ, ◌==◌, Bool, true, ◌||◌, List, Option, length, map}
use Rattle.tk_problem.specs.declared.point.Point.{Point}
use Rattle.tk_problem.specs.PlacesOf.{places_of}
use Rattle.tk_problem_text.specs.declared.placed_problem.PlacesOrigin.{PlacesOrigin}
use Rattle.tk_tour.specs.Tour.{IsTour}
use Rattle.tk_routes.specs.Cvrps.{instance_of}
use Rattle.tk_picture.specs.Drawings.{ATour, Cities, Drawing, SomeRoutes}
use Rattle.tk_picture.specs.DrawnRoutes.{RoutesFit}
use Rattle.tk_picture.specs.PictureText.{picture_text}
use Rattle.tk_picture.specs.PageText.{page_text}
use Rattle.tk_picture.specs.declared.extent.Extent.{Extent}
use Rattle.tk_picture.specs.declared.node_names.NodeNames.{NodeNames}
use Rattle.tk_picture.specs.declared.page.parts.Parts.{Parts}
use Rattle.tk_picture.specs.declared.picture.OutputFormat.{OutputFormat}
use Rattle.tk_picture.specs.declared.picture.OutputFormat.TheVariants as forms
use Rattle.tk_picture.specs.declared.picture.Picture.{Picture}
use Rattle.tk_picture.specs.declared.subject.Subject.{Subject}
use Rattle.tk_picture.specs.declared.subject.Subject.TheVariants as subjects

abbrev pub drawing_of : Subject → Drawing
drawing_of subjects.Cities = Cities
drawing_of (subjects.Tour cities length) = ATour cities.now length
drawing_of (subjects.Routes cvrp routes count cost) =
    SomeRoutes (instance_of cvrp) (map (λ r. r.items) routes.now) count cost

-- a tour of the cities 1 to n, or routes of a problem with n nodes, on which no customer occurs twice
abbrev pub Fits : ℕ → Subject → Type 0
Fits n subjects.Cities = Unit {0}
Fits n (subjects.Tour cities length) = IsTour n cities.now
Fits n (subjects.Routes cvrp routes count cost) = RoutesFit n cvrp routes.now

-- the text of a drawing, in a format
abbrev pub form_text : OutputFormat → Extent → List Point → List ℕ → Option PlacesOrigin → Drawing → Option ℕ →
    List ℕ → List ℕ
form_text forms.Svg f places name origin drawing depot demands = picture_text f places name origin drawing depot
form_text (forms.Page parts names) f places name origin drawing depot demands =
    page_text parts names.list.now f places name origin drawing depot demands

abbrev pub text_in : OutputFormat → Picture → List ℕ
text_in form p =
    form_text form p.view.extent (places_of p.view.places) p.name.now p.origin (drawing_of p.subject) p.depot
    p.demands.now

abbrev pub text_of : Picture → List ℕ
text_of p = text_in forms.Svg p

abbrev pub page_of : Parts → NodeNames → Picture → List ℕ
page_of parts names p = text_in (forms.Page parts names) p

-- a page has a name for each of n nodes, or no names
abbrev pub names_fit : OutputFormat → ℕ → Bool
names_fit forms.Svg n = true
names_fit (forms.Page parts names) n = (length names.list.now == 0) || (length names.list.now == n)
