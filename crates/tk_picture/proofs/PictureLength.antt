-- How long the text of a picture is at most.
use Rattle.std.proofs.Common.{◌≡◌, ℕ, zero, suc, ◌+◌, ◌-◌, ◌*◌, ◌≤◌, Bool, true, false, List, [], ◌∷◌, ◌++◌, Option}
use Rattle.std.proofs.Common.{Some, None, length, take, drop, arith, length-append, length-take, length-drop}
use Rattle.std.specs.Prelude.{flat_map, map, codes, decimal, if◌then◌else◌, nat_lt, slice_index, slice_index_or, ◌==◌}
use Rattle.std.specs.Char.{encode_utf8}
use Rattle.std.specs.List.{range_with_len, concat}
use Rattle.std.specs.Str.{chars, chars_after, continuation_len, lead_bits}
use Rattle.std.specs.Str.Lossy.{after_first_chunk, utf8_invalid_len, utf8_lossy, utf8_lossy_within, utf8_valid_len}
use Rattle.std.proofs.lemmas.Str.{length-encode, len_utf8_bounds}
use Rattle.std.proofs.lemmas.List.FromFn.{length-range_with_len}
use Rattle.std.proofs.lemmas.List.{length-map}
use Rattle.tk_problem.specs.declared.limits.TheConstants.{CITY_LIMIT}
use Rattle.tk_writers.proofs.Pieces.NumberLengths.{length_decimal, length_flat_map}
use Rattle.tk_writers.specs.Written.{line}
use Rattle.tk_routes.specs.Cvrps.{instance_of}
use Rattle.tk_routes.specs.Instance.{Instance, customer_count, node_of}
use Rattle.tk_routes.proofs.ServedCustomers.{AreServedOnce-short}
use Rattle.tk_picture.specs.Colours.{colour, first_colours, place_on_walk, rgb, colour_walk}
use Rattle.tk_picture.specs.Drawings.{ATour, Cities, Drawing, Path, SomeRoutes, caption, caption_of, each_filled}
use Rattle.tk_picture.specs.Drawings.{origin_words, paths_of, route_path, route_paths}
use Rattle.tk_picture.specs.declared.colour.Colour.{Colour}
use Rattle.tk_picture.specs.declared.extent.Extent.{Extent}
use Rattle.tk_picture.specs.declared.subject.Subject.{Subject}
use Rattle.tk_picture.specs.declared.subject.Subject.TheVariants as subjects
use Rattle.tk_picture.specs.Extents.{across, down, drawn_from_left, drawn_from_top, view_height}
use Rattle.tk_picture.specs.Names.{is_plain, shown_byte, shown_name}
use Rattle.tk_picture.specs.PictureText.{at_depot, between_customers, by_size, closed_line, closed_start, corners}
use Rattle.tk_picture.specs.PictureText.{dot, dots, halo_start, line_end, line_width, lines, open_line, open_start}
use Rattle.tk_picture.specs.PictureText.{pale_start, part_line, parted_lines, route_lines, spot, title}
use Rattle.tk_picture.specs.PictureText.{city_style, city_dots, depot_mark, has_dots, mark, number_mark, number_size}
use Rattle.tk_picture.specs.PictureText.{numbers_start, route_numbers, view_line, title_line, heading_line, group_line}
use Rattle.tk_picture.specs.PictureText.{head, picture_text, tail}
use Rattle.tk_picture.specs.Pictures.{Fits, drawing_of}
use Rattle.tk_picture.specs.declared.part.Part.{Part}
use Rattle.tk_picture.specs.declared.part.Part.TheVariants as parts
use Rattle.tk_distance.specs.PlaneOf.{city_place}
use Rattle.tk_problem.specs.declared.point.Point.{Point}
use Rattle.tk_problem_text.specs.declared.placed_problem.PlacesOrigin.{PlacesOrigin}
use Rattle.tk_problem_text.specs.declared.placed_problem.PlacesOrigin.TheVariants.{DisplayData, NodeCoordinates}

-- a text, and pieces after it
abbrev pub joined : List ℕ → List (List ℕ) → List ℕ
joined text [] = text
joined text (piece ∷ pieces) = joined (text ++ piece) pieces

abbrev pub length_of_all : List (List ℕ) → ℕ
length_of_all [] = 0
length_of_all (piece ∷ pieces) = length piece + length_of_all pieces

pub length_joined : (text : List ℕ) (pieces : List (List ℕ)) →
    length (joined text pieces) ≡ length text + length_of_all pieces
length_joined text [] = omega arith
length_joined text (piece ∷ pieces) =
    omega (arith, length_joined (text ++ piece) pieces, length-append text piece)

-- a choice of two texts is no longer than a bound on both
pub either_short : (b : Bool) (s t : List ℕ) (most : ℕ) → length s ≤ most → length t ≤ most →
    length (if b then s else t) ≤ most
either_short true s t most short_s short_t = short_s
either_short false s t most short_s short_t = short_t

-- ---- the name

length_char : (c : ℕ) → length (encode_utf8 c) ≤ 4
length_char c = omega (arith, length-encode c, (len_utf8_bounds c).1)

length_shown : (c : ℕ) → length (shown_byte c) ≤ 6
length_shown c =
    either_short (c == 38) (codes "&amp;") _ 6 (omega arith)
    (either_short (c == 60) (codes "&lt;") _ 6 (omega arith)
    (either_short (c == 62) (codes "&gt;") _ 6 (omega arith)
    (either_short (c == 34) (codes "&quot;") _ 6 (omega arith)
    (either_short (is_plain c) (encode_utf8 c) (codes "?") 6 (omega (arith, length_char c)) (omega arith)))))

chars_after_few : (n c : ℕ) (bs : List ℕ) → length (chars_after n c bs) ≤ 1 + length bs
chars_after_few zero c [] = omega arith
chars_after_few zero c (b ∷ bs) = omega (arith, chars_after_few (continuation_len b) (lead_bits b) bs)
chars_after_few (suc n) c [] = omega arith
chars_after_few (suc n) c (b ∷ bs) = omega (arith, chars_after_few n (c * 64 + (b - 128)) bs)

-- there are no more characters than bytes
chars_few : (bs : List ℕ) → length (chars bs) ≤ length bs
unfolding chars
chars_few [] = omega arith
chars_few (b ∷ bs) = omega (arith, chars_after_few (continuation_len b) (lead_bits b) bs)

lossy_within_short : (k most : ℕ) (bs : List ℕ) → length bs ≤ most →
    length (utf8_lossy_within k bs) ≤ most + k * (most + 3)
lossy_within_short zero most bs short = omega (arith, short)
lossy_within_short (suc k) most bs short =
    let rest = after_first_chunk bs in
    let front = take (utf8_valid_len bs) bs in
    let shorter : length rest ≤ most =
    omega (arith, short, length-drop (utf8_valid_len bs + utf8_invalid_len (drop (utf8_valid_len bs) bs)) bs) in
    let again = lossy_within_short k most rest shorter in
    let more : suc k * (most + 3) ≡ k * (most + 3) + (most + 3) = omega arith in
    either_short (utf8_valid_len bs == length bs) bs _ (most + suc k * (most + 3)) (omega (arith, short, more))
    (omega (
      arith,
      again,
      more,
      short,
      length-take (utf8_valid_len bs) bs,
      length-append front (0xEF ∷ 0xBF ∷ 0xBD ∷ utf8_lossy_within k rest),
    ))

lossy_short : (bs : List ℕ) → length bs ≤ 1024 → length (utf8_lossy bs) ≤ 2000000
unfolding utf8_lossy
lossy_short bs short = omega (arith, short, lossy_within_short (length bs) 1024 bs short)

pub length_name : (name : List ℕ) → length name ≤ 1024 → length (shown_name name) ≤ 12000000
length_name name short =
    omega (
      arith,
      length_flat_map shown_byte 6 length_shown (chars (utf8_lossy name)),
      chars_few (utf8_lossy name),
      lossy_short name short,
    )

length_subject : (n : ℕ) (d : Drawing) → length (caption_of n d) ≤ 200
length_subject n Cities = omega (arith, length_decimal n, length-append (decimal n) (codes " cities"))
length_subject n (ATour cities size) = let a = length_decimal n in let b = length_decimal size in
    simp length-append (omega arith)
length_subject n (SomeRoutes i routes count cost) = let a = length_decimal count in let b = length_decimal cost in
    simp length-append (omega arith)

length_origin : (origin : Option PlacesOrigin) → length (origin_words origin) ≤ 50
length_origin None = omega arith
length_origin (Some DisplayData) = omega arith
length_origin (Some NodeCoordinates) = omega arith

pub length_caption : (origin : Option PlacesOrigin) (n : ℕ) (d : Drawing) → length (caption origin n d) ≤ 250
length_caption origin n d =
    omega (arith, length_subject n d, length_origin origin, length-append (caption_of n d) (origin_words origin))

pub length_title : (name : List ℕ) (origin : Option PlacesOrigin) (n : ℕ) (d : Drawing) → length name ≤ 1024 →
    length (title name origin n d) ≤ 12000252
length_title name origin n d short =
    omega (
      arith,
      length_name name short,
      length_caption origin n d,
      length_joined (shown_name name) (codes ": " ∷ caption origin n d ∷ []),
    )

-- ---- lines

-- a text of some is no longer than all of them
length_text_at : (texts : List (List ℕ)) (k : ℕ) → length (slice_index_or texts k []) ≤ length (concat texts)
length_text_at [] k = omega arith
length_text_at (t ∷ texts) zero = omega (arith, length-append t (concat texts))
length_text_at (t ∷ texts) (suc k) = omega (arith, length_text_at texts k, length-append t (concat texts))

length_rgb : (c : Colour) → length (rgb c) ≤ 200
length_rgb c = let a = length_decimal c.red in let b = length_decimal c.green in let d = length_decimal c.blue in
    simp length-append (omega arith)

length_colour : (k : ℕ) → length (colour k) ≤ 200
length_colour k =
    let first : length (slice_index_or first_colours (k - 1) []) ≤ 49 = length_text_at first_colours (k - 1) in
    either_short (nat_lt k 8) _ (rgb (colour_walk (place_on_walk k))) 200 (omega (arith, first))
    (length_rgb (colour_walk (place_on_walk k)))

start_parts : (shape a : List ℕ) → length shape ≤ 20 → length a ≤ 200 →
    length (line (shape ++ a ++ codes "\" points=\"")) ≤ 300
start_parts shape a named short = simp length-append (omega arith)

length_closed_start : (k : ℕ) → length (closed_start k) ≤ 300
length_closed_start k = start_parts (codes "<polygon stroke=\"") (colour k) (omega arith) (length_colour k)

length_open_start : (k : ℕ) → length (open_start k) ≤ 300
length_open_start k = start_parts (codes "<polyline stroke=\"") (colour k) (omega arith) (length_colour k)

-- how many corners closed lines have
abbrev pub corners_of : List Path → ℕ
corners_of [] = 0
corners_of (p ∷ paths) = length p.cities + corners_of paths

-- what is put for each line
pub each_short : (put : Path → List ℕ) → ((p : Path) → length (put p) ≤ 800 + length p.cities * 130)
    → (paths : List Path)
    → length (flat_map put paths) ≤ length paths * 800 + corners_of paths * 130
each_short put short [] = omega arith
each_short put short (p ∷ paths) =
    omega (arith, short p, each_short put short paths, length-append (put p) (flat_map put paths))

pub length_spot : (f : Extent) (places : List Point) (city : ℕ) → length (spot f places city) ≤ 129
length_spot f places city =
    let right = across f (city_place places city) in
    let below = down f (city_place places city) in
    omega (
      arith,
      length_decimal right,
      length_decimal below,
      length_joined (decimal right) (codes "," ∷ decimal below ∷ []),
    )

mark_parts : (at fill digits : List ℕ) → length at ≤ 129 → length fill ≤ 200 → length digits ≤ 64
    → length
    (line (codes "<text transform=\"translate(" ++ at ++ codes ")\" dy=\"-.4em\" fill=\"" ++ fill ++ codes "\">"
    ++ digits ++ codes "</text>")) ≤ 500
mark_parts at fill digits a b d = simp length-append (omega arith)

length_mark : (k : ℕ) (at : List ℕ) → length at ≤ 129 → length (mark k at) ≤ 500
length_mark k at short = mark_parts at (colour k) (decimal k) short (length_colour k) (length_decimal k)

module _ (spot : ℕ → List ℕ) (short : (c : ℕ) → length (spot c) ≤ 129) where
  corner : (c : ℕ) → length (line (spot c)) ≤ 130
  corner c = omega (arith, short c, length-append (spot c) (10 ∷ []))

  length_corners : (cities : List ℕ) → length (corners spot cities) ≤ length cities * 130
  length_corners cities = length_flat_map (λ c. line (spot c)) 130 corner cities

  line_parts : (start cities : List ℕ) → length start ≤ 300 →
      length (start ++ corners spot cities ++ line_end) ≤ 304 + length cities * 130
  line_parts start cities short_start =
      omega (arith, length_corners cities, length_joined start (corners spot cities ∷ line_end ∷ []))

  length_closed_line : (path : Path) → length (closed_line spot path) ≤ 304 + length path.cities * 130
  length_closed_line path = line_parts (closed_start path.number) path.cities (length_closed_start path.number)

  length_open_line : (path : Path) → length (open_line spot path) ≤ 304 + length path.cities * 130
  length_open_line path = line_parts (open_start path.number) path.cities (length_open_start path.number)

  length_part_line : (part : Part) (path : Path) → length (part_line part spot path) ≤ 800 + length path.cities * 130
  length_part_line parts.Whole path = omega (arith, length_closed_line path)
  length_part_line parts.Customers path =
      omega (arith, length_open_line (between_customers path), length-drop 1 path.cities)
  length_part_line parts.Depot path = omega (arith, length_open_line (at_depot path))

  length_part_lines : (part : Part) (paths : List Path) →
      length (flat_map (part_line part spot) paths) ≤ length paths * 800 + corners_of paths * 130
  length_part_lines part paths = each_short (part_line part spot) (length_part_line part) paths

  pale_parts : (width : List ℕ) → length width ≤ 2 →
      length (line (codes "<g class=\"depot-lines\" stroke-opacity=\".5\" stroke-width=\"" ++ width ++ codes "\">"))
      ≤ 100
  pale_parts width few = simp length-append (omega arith)

  length_pale_start : (n : ℕ) → length (pale_start n) ≤ 100
  length_pale_start n =
      pale_parts (by_size n (codes "8") (codes "3"))
      (either_short (nat_lt n 2000) (codes "8") (codes "3") 2 (omega arith) (omega arith))

  length_parted : (n : ℕ) (paths : List Path) →
      length (parted_lines spot n paths) ≤ 200 + length paths * 1600 + corners_of paths * 260
  length_parted n paths =
      let at = flat_map (part_line parts.Depot spot) paths in
      let between = flat_map (part_line parts.Customers spot) paths in
      omega (
        arith,
        length_pale_start n,
        length_part_lines parts.Depot paths,
        length_part_lines parts.Customers paths,
        length_joined (pale_start n) (at ∷ line (codes "</g>") ∷ between ∷ []),
      )

  length_route_lines : (n count : ℕ) (paths : List Path) →
      length (route_lines spot n count paths) ≤ 200 + length paths * 1600 + corners_of paths * 260
  length_route_lines n count paths =
      either_short (nat_lt count 20) (flat_map (part_line parts.Whole spot) paths) (parted_lines spot n paths)
      (200 + length paths * 1600 + corners_of paths * 260)
      (omega (arith, length_part_lines parts.Whole paths)) (length_parted n paths)

  length_closed_lines : (paths : List Path) →
      length (flat_map (closed_line spot) paths) ≤ length paths * 800 + corners_of paths * 130
  length_closed_lines paths = each_short (closed_line spot) (λ p. omega (arith, length_closed_line p)) paths

  length_lines : (n : ℕ) (d : Drawing) →
      length (lines spot n d) ≤ 200 + length (paths_of d) * 1600 + corners_of (paths_of d) * 260
  length_lines n Cities = omega arith
  length_lines n (ATour cities size) = omega (arith, length_closed_lines (paths_of (ATour cities size)))
  length_lines n (SomeRoutes i routes count cost) = length_route_lines n count (route_paths i 1 routes)

  length_dot : (c : ℕ) → length (dot spot c) ≤ 133
  length_dot c = omega (arith, short c, length_joined (codes "M") (spot c ∷ codes "h0" ∷ (10 ∷ []) ∷ []))

  length_dots : (style cities : List ℕ) → length (dots spot style cities) ≤ 100 + length style + length cities * 133
  length_dots style cities =
      let all = length_joined (codes "<path stroke=\"black\" ")
      (style ∷ codes " d=\"" ∷ (10 ∷ []) ∷ flat_map (dot spot) cities ∷ line_end ∷ []) in
      omega (arith, length_flat_map (dot spot) 133 length_dot cities)

  length_city_dots : (n : ℕ) (d : Drawing) → length (city_dots spot n d) ≤ 200 + n * 133
  length_city_dots n d =
      let style : length (city_style n) ≤ 20 =
      either_short (nat_lt n 2000) (codes "stroke-width=\"60\"") (codes "stroke-width=\"12\"") 20 (omega arith)
      (omega arith) in
      either_short (has_dots d n) (dots spot (city_style n) (range_with_len 1 n)) [] (200 + n * 133)
      (omega (arith, style, length_dots (city_style n) (range_with_len 1 n), length-range_with_len 1 n)) (omega arith)

  length_depot_mark : (depot : Option ℕ) → length (depot_mark spot depot) ≤ 400
  length_depot_mark None = omega arith
  length_depot_mark (Some depot) = let a = short depot in simp length-append (omega arith)

  length_number_mark : (path : Path) → length (number_mark spot path) ≤ 800 + length path.cities * 130
  length_number_mark path =
      omega (arith, length_mark path.number (spot (slice_index path.cities 1)) (short (slice_index path.cities 1)))

  length_number_marks : (paths : List Path) →
      length (flat_map (number_mark spot) paths) ≤ length paths * 800 + corners_of paths * 130
  length_number_marks paths = each_short (number_mark spot) length_number_mark paths

  numbers_start_parts : (size : List ℕ) → length size ≤ 3
      → length
      (line (codes "<g font-family=\"sans-serif\" font-weight=\"bold\" text-anchor=\"middle\" font-size=\"" ++ size
      ++ codes "\">")) ≤ 200
  numbers_start_parts size few = simp length-append (omega arith)

  length_numbers_start : (n : ℕ) → length (numbers_start n) ≤ 200
  length_numbers_start n =
      numbers_start_parts (number_size n)
      (either_short (nat_lt n 2000) (codes "140") (codes "60") 3 (omega arith) (omega arith))

  halo_parts : (width : List ℕ) → length width ≤ 2 →
      length (line (codes "<g class=\"halo\" aria-hidden=\"true\" stroke=\"white\" stroke-width=\"" ++ width
      ++ codes "\">")) ≤ 100
  halo_parts width few = simp length-append (omega arith)

  length_halo_start : (n : ℕ) → length (halo_start n) ≤ 100
  length_halo_start n =
      halo_parts (by_size n (codes "40") (codes "17"))
      (either_short (nat_lt n 2000) (codes "40") (codes "17") 2 (omega arith) (omega arith))

  length_route_numbers : (n : ℕ) (d : Drawing) →
      length (route_numbers spot n d) ≤ 400 + length (paths_of d) * 1600 + corners_of (paths_of d) * 260
  length_route_numbers n Cities = omega arith
  length_route_numbers n (ATour cities size) = omega arith
  length_route_numbers n (SomeRoutes i routes count cost) =
      let marks = flat_map (number_mark spot) (route_paths i 1 routes) in
      omega (
        arith,
        length_numbers_start n,
        length_halo_start n,
        length_number_marks (route_paths i 1 routes),
        length_joined (numbers_start n) (halo_start n ∷ marks ∷ line (codes "</g>") ∷ marks ∷ line (codes "</g>")
            ∷ []),
      )

-- ---- the whole

length_view_line : (height : ℕ) → length (view_line height) ≤ 200
length_view_line height = let a = length_decimal height in simp length-append (omega arith)

pub length_title_line : (t : List ℕ) → length (title_line t) ≤ 100 + length t
length_title_line t = simp length-append (omega arith)

length_heading_line : (t : List ℕ) → length (heading_line t) ≤ 100 + length t
length_heading_line t = simp length-append (omega arith)

group_parts : (a b w : List ℕ) → length a ≤ 64 → length b ≤ 64 → length w ≤ 2
    → length
    (line (codes "<g transform=\"translate(" ++ a ++ codes " " ++ b
    ++ codes ") scale(0.1)\" fill=\"none\" stroke-linecap=\"round\" stroke-linejoin=\"round\" stroke-width=\"" ++ w
    ++ codes "\">")) ≤ 300
group_parts a b w short_a short_b short = simp length-append (omega arith)

length_group_line : (f : Extent) (n : ℕ) → length (group_line f n) ≤ 300
length_group_line f n =
    let width : length (line_width n) ≤ 2 =
    either_short (nat_lt n 2000) (codes "20") (codes "6") 2 (omega arith) (omega arith) in
    group_parts (decimal (drawn_from_left f)) (decimal (drawn_from_top f)) (line_width n)
    (length_decimal (drawn_from_left f)) (length_decimal (drawn_from_top f)) width

length_head : (f : Extent) (t : List ℕ) (n : ℕ) → length (head f t n) ≤ 900 + length t * 2
length_head f t n =
    let height = view_height f in
    let rect = line (codes "<rect width=\"100%\" height=\"100%\" fill=\"white\"/>") in
    let all = length_joined (view_line height) (title_line t ∷ rect ∷ heading_line t ∷ group_line f n ∷ []) in
    omega (arith, length_view_line height, length_title_line t, length_heading_line t, length_group_line f n)

-- there are no more routes that hold a customer than customers
pub filled_few : {X : Type 0} (f : ℕ → List ℕ → X) (k : ℕ) (routes : List (List ℕ)) →
    length (each_filled f k routes) ≤ length (concat routes)
filled_few f k [] = omega arith
filled_few f k ([] ∷ routes) = filled_few f (k + 1) routes
filled_few f k ((c ∷ cs) ∷ routes) = omega (arith, filled_few f (k + 1) routes, length-append (c ∷ cs) (concat routes))

-- and their lines have at most twice as many corners
corners_few : (i : Instance) (k : ℕ) (routes : List (List ℕ)) →
    corners_of (route_paths i k routes) ≤ length (concat routes) * 2
corners_few i k [] = omega arith
corners_few i k ([] ∷ routes) = corners_few i (k + 1) routes
corners_few i k ((c ∷ cs) ∷ routes) =
    let stops : length (map (node_of i.depot) (c ∷ cs)) ≡ length (c ∷ cs) = simp length-map in
    omega (arith, corners_few i (k + 1) routes, stops, length-append (c ∷ cs) (concat routes))

pub paths_few : (n : ℕ) (s : Subject) → Fits n s
    → (length (paths_of (drawing_of s)) ≤ n + 1) × (corners_of (paths_of (drawing_of s)) ≤ n * 2)
paths_few n subjects.Cities fits = (omega arith, omega arith)
paths_few n (subjects.Tour cities size) fits = (omega arith, omega (arith, fits.0))
paths_few n (subjects.Routes cvrp routes count cost) fits =
    let i = instance_of cvrp in
    let all = map (λ r. r.items) routes.now in
    let served = AreServedOnce-short (customer_count i) (concat all) fits.1 in
    (omega (arith, fits.0, served, filled_few (route_path i) 1 all), omega (arith, fits.0, served, corners_few i 1 all))

pub length_picture : (f : Extent) (places : List Point) (name : List ℕ) (origin : Option PlacesOrigin) (d : Drawing)
    (depot : Option ℕ)
    → length name ≤ 1024 → length places ≤ CITY_LIMIT
    → length (paths_of d) ≤ 100001 → corners_of (paths_of d) ≤ 200000 →
    length (picture_text f places name origin d depot) ≤ 500000000
length_picture f places name origin d depot named few few_lines few_corners =
    let at = spot f places in
    let short = length_spot f places in
    let n = length places in
    let end : length tail ≤ 20 = omega arith in
    let all = length_joined (head f (title name origin n d) n) (lines at n d ∷ city_dots at n d ∷ route_numbers at n d
    ∷ depot_mark at depot ∷ tail ∷ []) in
    let h = length_head f (title name origin n d) n in
    let t = length_title name origin n d named in
    let l = length_lines at short n d in
    let p = length_city_dots at short n d in
    let m = length_depot_mark at short depot in
    let r = length_route_numbers at short n d in
    omega arith
