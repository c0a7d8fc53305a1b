-- The text of an HTML page with a picture. A reader without JavaScript sees the picture and the table; the script reads
-- the lines with cities and paths.
--     city_line f places demands depot c      a city
--     path_line path      the cities of a closed line
--     route_row i k route      the table row of a route
--     legs_line words      the number of a route, and the lengths of its legs
--     names_block names      the names of the nodes
--     page_text parts names f places name origin drawing depot demands      the whole text
use Rattle.std.specs.Prelude.{ℕ, ◌-◌, ◌*◌, ◌/◌, ◌==◌, List, [], ◌∷◌, ◌++◌, Option, Some, None, length, slice_get}
use Rattle.std.specs.Prelude.{map, flat_map, codes, decimal, if◌then◌else◌}
use Rattle.std.specs.List.{range_with_len}
use Rattle.std.specs.Fmt.{signed_decimal}
use Rattle.tk_problem.specs.declared.point.Point.{Point}
use Rattle.tk_problem_text.specs.declared.placed_problem.PlacesOrigin.{PlacesOrigin}
use Rattle.tk_writers.specs.Written.{line, spaced_numbers}
use Rattle.tk_distance.specs.PlaneOf.{city_place}
use Rattle.tk_routes.specs.Instance.{Instance, node_of}
use Rattle.tk_routes.specs.Routes.{route_length, route_load}
use Rattle.tk_picture.specs.declared.extent.Extent.{Extent}
use Rattle.tk_picture.specs.declared.node_names.NodeName.{NodeName}
use Rattle.tk_picture.specs.declared.page.parts.Parts.{Parts}
use Rattle.tk_picture.specs.Drawings.{Drawing, Path, SomeRoutes, caption, each_filled, paths_of}
use Rattle.tk_picture.specs.Names.{shown_name}
use Rattle.tk_picture.specs.PictureText.{picture_text, spot, title, title_line}

-- ---- before the picture

abbrev pub heading : List ℕ → List ℕ
heading name = line (codes "<h1><bdi>" ++ shown_name name ++ codes "</bdi></h1>")

-- the caption of the picture, in the words that the checks print
abbrev pub verdict : Option PlacesOrigin → ℕ → Drawing → List ℕ
verdict origin n drawing = line (codes "<p id=\"verdict\">" ++ caption origin n drawing ++ codes "</p>")

abbrev pub opening : Parts → List ℕ → Option PlacesOrigin → ℕ → Drawing → List ℕ
opening parts name origin n drawing =
    parts.head.now ++ parts.style.now ++ line (codes "</style>") ++ title_line (title name origin n drawing)
    ++ line (codes "<body>") ++ heading name ++ verdict origin n drawing ++ line (codes "<div id=\"stage\">")

-- ---- the table of routes

-- the table row of a route: its number, the number of its customers, its load, the load as a percentage of the
-- capacity, rounded down, and its length
pub record Row : Type 0 where
  pub number : ℕ
  pub customers : ℕ
  pub load : ℕ
  pub share : ℕ
  pub length : ℕ

-- the load as a percentage of the capacity, rounded down; 0 if the capacity is 0
abbrev pub share : ℕ → ℕ → ℕ
share load capacity = if capacity == 0 then 0 else load * 100 / capacity

abbrev pub route_row : Instance → ℕ → List ℕ → Row
route_row i k route = record {
  number = k;
  customers = length route;
  load = route_load i route;
  share = share (route_load i route) i.capacity;
  length = route_length i route;
}

abbrev pub row_line : Row → List ℕ
row_line r =
    line (codes "<tr><th scope=\"row\">" ++ decimal r.number ++ codes "<td>" ++ decimal r.customers
    ++ codes "<td>" ++ decimal r.load ++ codes "<td>" ++ decimal r.share ++ codes "<td>" ++ decimal r.length)

-- the rows of the routes that have a customer, which are numbered from k on
abbrev pub rows : Instance → ℕ → List (List ℕ) → List Row
rows i k routes = each_filled (route_row i) k routes

abbrev pub table_caption : ℕ → List ℕ
table_caption capacity = line (codes "<table><caption>Routes, capacity " ++ decimal capacity ++ codes "</caption>")

abbrev pub table_head : List ℕ
table_head =
    line (codes "<thead><tr><th scope=\"col\">Route<th scope=\"col\">Customers<th scope=\"col\">Load"
    ++ codes "<th scope=\"col\">% of capacity<th scope=\"col\">Length") ++ line (codes "<tbody>")

abbrev pub table_start : ℕ → List ℕ
table_start capacity = line (codes "<div id=\"routes\">") ++ table_caption capacity ++ table_head

abbrev pub table_end : List ℕ
table_end = line (codes "</table>") ++ line (codes "</div>")

abbrev pub table : Drawing → List ℕ
table (SomeRoutes i routes count cost) = table_start i.capacity ++ flat_map row_line (rows i 1 routes) ++ table_end
table _ = []

-- ---- the cities and the paths

-- the demand of a city, if there are demands
abbrev pub demand_word : Option ℕ → List ℕ
demand_word None = []
demand_word (Some demand) = codes " " ++ decimal demand

abbrev pub depot_word : Option ℕ → ℕ → List ℕ
depot_word None c = []
depot_word (Some depot) c = if depot == c then codes " depot" else []

-- the coordinates of a city, in units of 10^-9
abbrev pub coordinates : List Point → ℕ → List ℕ
coordinates places c = signed_decimal (city_place places c).x ++ codes " " ++ signed_decimal (city_place places c).y

-- the position of a city in the picture, its coordinates, its demand, and whether it is the depot
abbrev pub city_line : Extent → List Point → List ℕ → Option ℕ → ℕ → List ℕ
city_line f places demands depot c =
    line (spot f places c ++ codes " " ++ coordinates places c ++ demand_word (slice_get demands (c - 1))
    ++ depot_word depot c)

abbrev pub path_line : Path → List ℕ
path_line path = line (spaced_numbers path.cities)

-- lines that are data for the script
abbrev pub data_block : List ℕ → List ℕ → List ℕ
data_block name lines =
    line (codes "<script type=\"text/plain\" id=\"" ++ name ++ codes "\">") ++ lines ++ line (codes "</script>")

-- ---- the legs of routes

-- the lengths of the legs from a city through others to the last
abbrev pub legs : (ℕ → ℕ → ℕ) → ℕ → List ℕ → ℕ → List ℕ
legs distance from [] to = distance from to ∷ []
legs distance from (city ∷ cities) to = distance from city ∷ legs distance city cities to

-- the lengths of the legs of a route, from the depot to the first customer, and so on, and back to the depot
abbrev pub legs_of : Instance → List ℕ → List ℕ
legs_of i route = legs i.distance i.depot (map (node_of i.depot) route) i.depot

-- a length after a space
abbrev pub leg_word : ℕ → List ℕ
leg_word length = codes " " ++ decimal length

abbrev pub leg_words : Instance → List ℕ → List ℕ
leg_words i route = flat_map leg_word (legs_of i route)

-- the number of a route and its legs
abbrev pub route_legs : Instance → ℕ → List ℕ → List ℕ
route_legs i k route = k ∷ legs_of i route

abbrev pub legs_line : List ℕ → List ℕ
legs_line words = line (spaced_numbers words)

-- only for routes
abbrev pub legs_block : Drawing → List ℕ
legs_block (SomeRoutes i routes count cost) =
    data_block (codes "legs") (flat_map legs_line (each_filled (route_legs i) 1 routes))
legs_block _ = []

-- ---- the names of nodes

abbrev pub name_lines : List NodeName → List ℕ
name_lines names = flat_map (λ name. line (shown_name name.text.items)) names

-- one name on each line; nothing if there are no names
abbrev pub names_block : List NodeName → List ℕ
names_block [] = []
names_block (name ∷ names) =
    line (codes "<pre id=\"names\" hidden>") ++ name_lines (name ∷ names) ++ line (codes "</pre>")

-- ---- the whole

abbrev pub page_ending : Parts → List ℕ
page_ending parts = parts.tools.now ++ line (codes "<script>") ++ parts.script.now ++ line (codes "</script>")

abbrev pub page_text : Parts → List NodeName → Extent → List Point → List ℕ → Option PlacesOrigin → Drawing →
    Option ℕ → List ℕ → List ℕ
page_text parts names f places name origin drawing depot demands =
    opening parts name origin (length places) drawing
    ++ picture_text f places name origin drawing depot ++ line (codes "</div>")
    ++ table drawing
    ++ data_block (codes "cities") (flat_map (city_line f places demands depot) (range_with_len 1 (length places)))
    ++ data_block (codes "paths") (flat_map path_line (paths_of drawing))
    ++ legs_block drawing
    ++ names_block names
    ++ page_ending parts
