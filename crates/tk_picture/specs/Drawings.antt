-- The contents of a picture.
--     Drawing      only the cities, a tour, or routes
--     each_filled f k routes      the results of f for the routes that have a customer
--     paths_of drawing      its closed lines, each with its number
--     caption_of n drawing      its description
--     caption origin n drawing      its description in the title, which ends with the origin of the places
use Rattle.std.specs.Prelude.{ℕ, ◌+◌, List, [], ◌∷◌, ◌++◌, Option, Some, None, codes, decimal}
use Rattle.tk_routes.specs.Instance.{Instance}
use Rattle.tk_routes.specs.Routes.{route_nodes}
use Rattle.tk_problem_text.specs.declared.placed_problem.PlacesOrigin.{PlacesOrigin}
use Rattle.tk_problem_text.specs.declared.placed_problem.PlacesOrigin.TheVariants.{DisplayData, NodeCoordinates}

-- only the cities; a tour of this length; routes of an instance, with the number of those that have a customer, and
-- their cost
pub data Drawing : Type 0 where
  Cities : Drawing
  ATour : (cities : List ℕ) (length : ℕ) → Drawing
  SomeRoutes : (i : Instance) (routes : List (List ℕ)) (count cost : ℕ) → Drawing

-- a closed line through cities
pub record Path : Type 0 where
  pub number : ℕ
  pub cities : List ℕ

-- the results of f for the routes that have a customer, given their numbers and customers; the other routes are counted
-- too
abbrev pub each_filled : {X : Type 0} → (ℕ → List ℕ → X) → ℕ → List (List ℕ) → List X
each_filled f k [] = []
each_filled f k ([] ∷ routes) = each_filled f (k + 1) routes
each_filled f k ((c ∷ cs) ∷ routes) = f k (c ∷ cs) ∷ each_filled f (k + 1) routes

abbrev pub route_path : Instance → ℕ → List ℕ → Path
route_path i k route = record { number = k; cities = route_nodes i route }

-- the closed lines of routes, which are numbered from k on
abbrev pub route_paths : Instance → ℕ → List (List ℕ) → List Path
route_paths i k routes = each_filled (route_path i) k routes

abbrev pub paths_of : Drawing → List Path
paths_of Cities = []
paths_of (ATour cities length) = record { number = 1; cities = cities } ∷ []
paths_of (SomeRoutes i routes count cost) = route_paths i 1 routes

abbrev pub caption_of : ℕ → Drawing → List ℕ
caption_of n Cities = decimal n ++ codes " cities"
caption_of n (ATour cities length) = codes "tour of " ++ decimal n ++ codes " cities, length " ++ decimal length
caption_of n (SomeRoutes i routes count cost) = decimal count ++ codes " routes, cost " ++ decimal cost

-- the section whose places are drawn
abbrev pub section_words : PlacesOrigin → List ℕ
section_words DisplayData = codes ", places: display data of the file"
section_words NodeCoordinates = codes ", places: node coordinates of the file"

-- the section whose places are drawn, if the distances do not depend on them
abbrev pub origin_words : Option PlacesOrigin → List ℕ
origin_words None = []
origin_words (Some origin) = section_words origin

abbrev pub caption : Option PlacesOrigin → ℕ → Drawing → List ℕ
caption origin n drawing = caption_of n drawing ++ origin_words origin
