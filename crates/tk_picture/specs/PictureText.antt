-- The text of a picture (SVG 1.1). Within its group, a unit is a ten-thousandth of the extent's longer side.
--     spot f places city      the position of a city
--     closed_line spot path      a closed line through cities, in the colour of its number
--     part_line part spot path      that line, or a part of it
--     lines spot n drawing      all lines; the lines to and from the depot are pale if there are many routes
--     dots spot style cities      cities as points
--     route_numbers spot n drawing      the number of each route, over its first customer
--     picture_text f places name origin drawing depot      the whole text
use Rattle.std.specs.Prelude.{ℕ, ◌-◌, Bool, true, nat_lt, List, [], ◌∷◌, ◌++◌, Option, Some, None, length, drop}
use Rattle.std.specs.Prelude.{slice_index, flat_map, codes, decimal, if◌then◌else◌}
use Rattle.std.specs.List.{range_with_len}
use Rattle.tk_problem.specs.declared.point.Point.{Point}
use Rattle.tk_problem_text.specs.declared.placed_problem.PlacesOrigin.{PlacesOrigin}
use Rattle.tk_writers.specs.Written.{line}
use Rattle.tk_distance.specs.PlaneOf.{city_place}
use Rattle.tk_picture.specs.Colours.{colour}
use Rattle.tk_picture.specs.Drawings.{Cities, Drawing, Path, SomeRoutes, caption, paths_of, route_paths}
use Rattle.tk_picture.specs.declared.part.Part.{Part}
use Rattle.tk_picture.specs.declared.part.Part.TheVariants as parts
use Rattle.tk_picture.specs.declared.extent.Extent.{Extent}
use Rattle.tk_picture.specs.Extents.{across, down, drawn_from_left, drawn_from_top, view_height}
use Rattle.tk_picture.specs.Names.{shown_name}

abbrev pub title : List ℕ → Option PlacesOrigin → ℕ → Drawing → List ℕ
title name origin n drawing = shown_name name ++ codes ": " ++ caption origin n drawing

-- the position of a city
abbrev pub spot : Extent → List Point → ℕ → List ℕ
spot f places city =
    decimal (across f (city_place places city)) ++ codes "," ++ decimal (down f (city_place places city))

-- fewer than 2,000 cities; with more, lines are thinner, and points and numbers are smaller
abbrev pub is_small : ℕ → Bool
is_small n = nat_lt n 2000

-- the first of two texts for a small picture, otherwise the second
abbrev pub by_size : ℕ → List ℕ → List ℕ → List ℕ
by_size n few many = if is_small n then few else many

-- ---- lines

-- the beginning of a closed line, or of an open one, in the colour of a number
abbrev pub closed_start : ℕ → List ℕ
closed_start k = line (codes "<polygon stroke=\"" ++ colour k ++ codes "\" points=\"")

abbrev pub open_start : ℕ → List ℕ
open_start k = line (codes "<polyline stroke=\"" ++ colour k ++ codes "\" points=\"")

abbrev pub line_end : List ℕ
line_end = line (codes "\"/>")

abbrev pub corners : (ℕ → List ℕ) → List ℕ → List ℕ
corners spot cities = flat_map (λ c. line (spot c)) cities

abbrev pub closed_line : (ℕ → List ℕ) → Path → List ℕ
closed_line spot path = closed_start path.number ++ corners spot path.cities ++ line_end

abbrev pub open_line : (ℕ → List ℕ) → Path → List ℕ
open_line spot path = open_start path.number ++ corners spot path.cities ++ line_end

-- the path of a route without the depot, with which it begins
abbrev pub between_customers : Path → Path
between_customers path = record { number = path.number; cities = drop 1 path.cities }

-- from the last customer to the depot, and to the first customer
abbrev pub at_depot : Path → Path
at_depot path =
    record {
      number = path.number;
      cities = slice_index path.cities (length path.cities - 1) ∷ slice_index path.cities 0
          ∷ slice_index path.cities 1 ∷ [];
    }

-- a route's closed line, or a part of it
abbrev pub part_line : Part → (ℕ → List ℕ) → Path → List ℕ
part_line parts.Whole spot path = closed_line spot path
part_line parts.Customers spot path = open_line spot (between_customers path)
part_line parts.Depot spot path = open_line spot (at_depot path)

-- the beginning of a group of thinner, paler lines
abbrev pub pale_start : ℕ → List ℕ
pale_start n =
    line (codes "<g class=\"depot-lines\" stroke-opacity=\".5\" stroke-width=\""
    ++ by_size n (codes "8") (codes "3") ++ codes "\">")

-- the lines to and from the depot, and then those between customers
abbrev pub parted_lines : (ℕ → List ℕ) → ℕ → List Path → List ℕ
parted_lines spot n paths =
    pale_start n ++ flat_map (part_line parts.Depot spot) paths ++ line (codes "</g>")
    ++ flat_map (part_line parts.Customers spot) paths

-- the lines of this many routes: from 20 on, those to and from the depot are thinner and paler
abbrev pub route_lines : (ℕ → List ℕ) → ℕ → ℕ → List Path → List ℕ
route_lines spot n count paths =
    if nat_lt count 20 then flat_map (part_line parts.Whole spot) paths else parted_lines spot n paths

abbrev pub lines : (ℕ → List ℕ) → ℕ → Drawing → List ℕ
lines spot n (SomeRoutes i routes count cost) = route_lines spot n count (route_paths i 1 routes)
lines spot n drawing = flat_map (closed_line spot) (paths_of drawing)

-- ---- points

-- a point
abbrev pub dot : (ℕ → List ℕ) → ℕ → List ℕ
dot spot city = line (codes "M" ++ spot city ++ codes "h0")

-- points of one style
abbrev pub dots : (ℕ → List ℕ) → List ℕ → List ℕ → List ℕ
dots spot style cities =
    line (codes "<path stroke=\"black\" " ++ style ++ codes " d=\"") ++ flat_map (dot spot) cities ++ line_end

abbrev pub city_style : ℕ → List ℕ
city_style n = by_size n (codes "stroke-width=\"60\"") (codes "stroke-width=\"12\"")

-- many cities are shown as points only if nothing else is drawn
abbrev pub has_dots : Drawing → ℕ → Bool
has_dots Cities n = true
has_dots _ n = is_small n

abbrev pub city_dots : (ℕ → List ℕ) → ℕ → Drawing → List ℕ
city_dots spot n drawing = if has_dots drawing n then dots spot (city_style n) (range_with_len 1 n) else []

-- a square at the depot
abbrev pub depot_mark : (ℕ → List ℕ) → Option ℕ → List ℕ
depot_mark spot None = []
depot_mark spot (Some depot) =
    line (codes "<path fill=\"black\" d=\"M" ++ spot depot ++ codes "m-80,-80h160v160h-160z\"/>")

-- ---- numbers

-- a number at a position
abbrev pub mark : ℕ → List ℕ → List ℕ
mark k at =
    line (codes "<text transform=\"translate(" ++ at ++ codes ")\" dy=\"-.4em\" fill=\"" ++ colour k ++ codes "\">"
    ++ decimal k ++ codes "</text>")

-- the number of a route, over its first customer, which is the second city of its path
abbrev pub number_mark : (ℕ → List ℕ) → Path → List ℕ
number_mark spot path = mark path.number (spot (slice_index path.cities 1))

abbrev pub number_size : ℕ → List ℕ
number_size n = by_size n (codes "140") (codes "60")

abbrev pub numbers_start : ℕ → List ℕ
numbers_start n =
    line (codes "<g font-family=\"sans-serif\" font-weight=\"bold\" text-anchor=\"middle\" font-size=\""
    ++ number_size n ++ codes "\">")

-- the beginning of a group of numbers with a white outline
abbrev pub halo_start : ℕ → List ℕ
halo_start n =
    line (codes "<g class=\"halo\" aria-hidden=\"true\" stroke=\"white\" stroke-width=\""
    ++ by_size n (codes "40") (codes "17") ++ codes "\">")

-- the white outlines of all numbers, and then the numbers
abbrev pub route_numbers : (ℕ → List ℕ) → ℕ → Drawing → List ℕ
route_numbers spot n (SomeRoutes i routes count cost) =
    numbers_start n ++ halo_start n ++ flat_map (number_mark spot) (route_paths i 1 routes) ++ line (codes "</g>")
    ++ flat_map (number_mark spot) (route_paths i 1 routes) ++ line (codes "</g>")
route_numbers spot n _ = []

-- ---- the whole

abbrev pub view_line : ℕ → List ℕ
view_line height =
    line (codes "<svg xmlns=\"http://www.w3.org/2000/svg\" viewBox=\"0 0 1040 " ++ decimal height ++ codes "\">")

abbrev pub title_line : List ℕ → List ℕ
title_line title = line (codes "<title>" ++ title ++ codes "</title>")

abbrev pub heading_line : List ℕ → List ℕ
heading_line title =
    line (codes "<text x=\"20\" y=\"40\" font-family=\"sans-serif\" font-size=\"24\">" ++ title ++ codes "</text>")

abbrev pub line_width : ℕ → List ℕ
line_width n = by_size n (codes "20") (codes "6")

abbrev pub group_line : Extent → ℕ → List ℕ
group_line f n =
    line (codes "<g transform=\"translate(" ++ decimal (drawn_from_left f) ++ codes " " ++ decimal (drawn_from_top f)
    ++ codes ") scale(0.1)\" fill=\"none\" stroke-linecap=\"round\" stroke-linejoin=\"round\" stroke-width=\""
    ++ line_width n ++ codes "\">")

abbrev pub head : Extent → List ℕ → ℕ → List ℕ
head f title n =
    view_line (view_height f) ++ title_line title
    ++ line (codes "<rect width=\"100%\" height=\"100%\" fill=\"white\"/>") ++ heading_line title ++ group_line f n

abbrev pub tail : List ℕ
tail = line (codes "</g>") ++ line (codes "</svg>")

-- a title, lines through cities, the cities, the numbers of routes, and the depot
abbrev pub picture_text : Extent → List Point → List ℕ → Option PlacesOrigin → Drawing → Option ℕ → List ℕ
picture_text f places name origin drawing depot =
    head f (title name origin (length places) drawing) (length places)
    ++ lines (spot f places) (length places) drawing
    ++ city_dots (spot f places) (length places) drawing
    ++ route_numbers (spot f places) (length places) drawing
    ++ depot_mark (spot f places) depot
    ++ tail
