-- A view, as its callers see it.
use Rattle.std.specs.Prelude.{ℕ, List, length}
use Rattle.tk_problem.specs.PlacesOf.{places_of}
use Rattle.tk_picture.specs.declared.view.View.{View}
use Rattle.tk_picture.specs.PictureText.{spot}

abbrev pub city_count : View → ℕ
city_count v = length (places_of v.places)

-- the position of a city
abbrev pub spot_in : View → ℕ → List ℕ
spot_in v = spot v.extent (places_of v.places)
