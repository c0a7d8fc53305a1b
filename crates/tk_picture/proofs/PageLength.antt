-- How long the text of a page is at most.
use Rattle.std.proofs.Common.{ℕ, suc, ◌+◌, ◌-◌, ◌*◌, ◌^◌, ◌≤◌, List, [], ◌∷◌, ◌++◌, Option, Some, None, length, arith}
use Rattle.std.proofs.Common.{◌≡◌, ap, length-append, refl}
use Rattle.std.proofs.lemmas.List.{length-map}
use Rattle.std.specs.Prelude.{ℤ, pos, negsuc, flat_map, codes, decimal, map, slice_get, ◌==◌}
use Rattle.std.specs.Fmt.{signed_decimal}
use Rattle.std.specs.List.{concat, range_with_len}
use Rattle.std.proofs.lemmas.List.FromFn.{length-range_with_len}
use Rattle.tk_problem.specs.declared.limits.TheConstants.{CITY_LIMIT}
use Rattle.tk_problem.specs.declared.point.Point.{Point}
use Rattle.tk_problem.specs.PlacesOf.{places_of}
use Rattle.tk_writers.proofs.Pieces.NumberLengths.{length_decimal, length_flat_map}
use Rattle.tk_writers.specs.Written.{line, spaced_numbers}
use Rattle.tk_distance.specs.PlaneOf.{city_place}
use Rattle.tk_routes.specs.Cvrps.{instance_of}
use Rattle.tk_routes.specs.Instance.{Instance, customer_count, node_of}
use Rattle.tk_routes.proofs.ServedCustomers.{AreServedOnce-short}
use Rattle.tk_picture.specs.declared.extent.Extent.{Extent}
use Rattle.tk_picture.specs.declared.node_names.NodeName.{NodeName}
use Rattle.tk_picture.specs.declared.node_names.NodeNames.{NodeNames}
use Rattle.tk_picture.specs.declared.page.parts.Parts.{Parts}
use Rattle.tk_picture.specs.declared.picture.OutputFormat.{OutputFormat}
use Rattle.tk_picture.specs.declared.picture.OutputFormat.TheVariants as forms
use Rattle.tk_picture.specs.declared.picture.Picture.{Picture}
use Rattle.tk_picture.specs.declared.subject.Subject.{Subject}
use Rattle.tk_problem_text.specs.declared.placed_problem.PlacesOrigin.{PlacesOrigin}
use Rattle.tk_picture.specs.declared.subject.Subject.TheVariants as subjects
use Rattle.tk_picture.specs.Drawings.{Drawing, Path, caption, each_filled, paths_of}
use Rattle.tk_picture.specs.Names.{shown_name}
use Rattle.tk_picture.specs.PageText.{Row, data_block, city_line, demand_word, depot_word, page_ending, heading}
use Rattle.tk_picture.specs.PageText.{legs, legs_block, legs_line, name_lines, names_block, opening, route_legs}
use Rattle.tk_picture.specs.PageText.{page_text, path_line, row_line, route_row, rows, table, table_caption, table_end}
use Rattle.tk_picture.specs.PageText.{table_head, table_start, verdict}
use Rattle.tk_picture.specs.PictureText.{picture_text, spot, title, title_line}
use Rattle.tk_picture.specs.Pictures.{Fits, drawing_of, text_in}
use Rattle.tk_picture.proofs.PictureLength.{corners_of, each_short, either_short, filled_few, length_caption}
use Rattle.tk_picture.proofs.PictureLength.{length_joined, length_name, length_picture, length_spot, length_title}
use Rattle.tk_picture.proofs.PictureLength.{length_title_line, paths_few}

-- ---- before the picture

around : (before text after : List ℕ) → length before ≤ 50 → length after ≤ 50 →
    length (line (before ++ text ++ after)) ≤ 101 + length text
around before text after short_before short_after = simp length-append (omega arith)

length_heading : (name : List ℕ) → length name ≤ 1024 → length (heading name) ≤ 12000101
length_heading name named =
    omega (
      arith,
      length_name name named,
      around (codes "<h1><bdi>") (shown_name name) (codes "</bdi></h1>")
          (omega arith) (omega arith),
    )

length_verdict : (origin : Option PlacesOrigin) (n : ℕ) (d : Drawing) → length (verdict origin n d) ≤ 351
length_verdict origin n d =
    omega (
      arith,
      length_caption origin n d,
      around (codes "<p id=\"verdict\">") (caption origin n d) (codes "</p>") (omega arith)
          (omega arith),
    )

length_opening : (parts : Parts) (name : List ℕ) (origin : Option PlacesOrigin) (n : ℕ) (d : Drawing)
    → length name ≤ 1024 → length (opening parts name origin n d) ≤ 30000000
length_opening parts name origin n d named =
    let all = length_joined parts.head.now (parts.style.now ∷ line (codes "</style>")
    ∷ title_line (title name origin n d) ∷ line (codes "<body>") ∷ heading name ∷ verdict origin n d
    ∷ line (codes "<div id=\"stage\">") ∷ []) in
    omega (
      arith,
      parts.head_short,
      parts.style_short,
      length_title_line (title name origin n d),
      length_title name origin n d named,
      length_heading name named,
      length_verdict origin n d,
    )

-- ---- the table

row_parts : (a b c d e : List ℕ) → length a ≤ 64 → length b ≤ 64 → length c ≤ 64 → length d ≤ 64 → length e ≤ 64
    → length
    (line (codes "<tr><th scope=\"row\">" ++ a ++ codes "<td>" ++ b ++ codes "<td>" ++ c ++ codes "<td>" ++ d
    ++ codes "<td>" ++ e)) ≤ 400
row_parts a b c d e p q r s t = simp length-append (omega arith)

length_row : (r : Row) → length (row_line r) ≤ 400
length_row r =
    row_parts (decimal r.number) (decimal r.customers) (decimal r.load) (decimal r.share) (decimal r.length)
    (length_decimal r.number) (length_decimal r.customers) (length_decimal r.load) (length_decimal r.share)
    (length_decimal r.length)

length_caption_line : (capacity : ℕ) → length (table_caption capacity) ≤ 200
length_caption_line capacity = let a = length_decimal capacity in simp length-append (omega arith)

length_table_start : (capacity : ℕ) → length (table_start capacity) ≤ 500
length_table_start capacity =
    let div = line (codes "<div id=\"routes\">") in
    let short_head : length table_head ≤ 200 = omega arith in
    let all = length_joined div (table_caption capacity ∷ table_head ∷ []) in
    omega (arith, length_caption_line capacity)

length_table : (n : ℕ) (s : Subject) → n ≤ CITY_LIMIT → Fits n s → length (table (drawing_of s)) ≤ 50000000
length_table n subjects.Cities few fits = omega arith
length_table n (subjects.Tour cities size) few fits = omega arith
length_table n (subjects.Routes cvrp routes count cost) few fits =
    let i = instance_of cvrp in
    let all = map (λ r. r.items) routes.now in
    let lines = flat_map row_line (rows i 1 all) in
    let end : length table_end ≤ 20 = omega arith in
    let whole = length_joined (table_start i.capacity) (lines ∷ table_end ∷ []) in
    omega (
      arith,
      length_table_start i.capacity,
      length_flat_map row_line 400 length_row (rows i 1 all),
      filled_few (route_row i) 1 all,
      AreServedOnce-short (customer_count i) (concat all) fits.1,
      fits.0,
    )

-- ---- the cities and the paths

length_signed : (z : ℤ) → length (signed_decimal z) ≤ 65
length_signed (pos n) = omega (arith, length_decimal n)
length_signed (negsuc n) = omega (arith, length_decimal (suc n))

length_demand : (d : Option ℕ) → length (demand_word d) ≤ 65
length_demand None = omega arith
length_demand (Some d) = omega (arith, length_decimal d, length-append (codes " ") (decimal d))

length_depot_word : (depot : Option ℕ) (c : ℕ) → length (depot_word depot c) ≤ 6
length_depot_word None c = omega arith
length_depot_word (Some depot) c = either_short (depot == c) (codes " depot") [] 6 (omega arith) (omega arith)

city_parts : (at x y demand word : List ℕ) → length at ≤ 129 → length x ≤ 65 → length y ≤ 65 → length demand ≤ 65
    → length word ≤ 6
    → length (line (at ++ codes " " ++ (x ++ codes " " ++ y) ++ demand ++ word)) ≤ 400
city_parts at x y demand word a b c d e = simp length-append (omega arith)

length_city : (f : Extent) (places : List Point) (demands : List ℕ) (depot : Option ℕ) (c : ℕ) →
    length (city_line f places demands depot c) ≤ 400
length_city f places demands depot c =
    city_parts (spot f places c) (signed_decimal (city_place places c).x) (signed_decimal (city_place places c).y)
    (demand_word (slice_get demands (c - 1))) (depot_word depot c)
    (length_spot f places c) (length_signed (city_place places c).x) (length_signed (city_place places c).y)
    (length_demand (slice_get demands (c - 1))) (length_depot_word depot c)

length_spaced : (xs : List ℕ) → length (spaced_numbers xs) ≤ length xs * 65
length_spaced [] = omega arith
length_spaced (x ∷ xs) =
    let rest = length_flat_map (λ y. codes " " ++ decimal y) 65 (λ y. omega (arith, length_decimal y)) xs in
    omega (arith, length_decimal x, length-append (decimal x) (flat_map (λ y. codes " " ++ decimal y) xs))

length_path : (p : Path) → length (path_line p) ≤ 800 + length p.cities * 130
length_path p = omega (arith, length_spaced p.cities, length-append (spaced_numbers p.cities) (10 ∷ []))

length_block : (name lines : List ℕ) → length name ≤ 10 → length (data_block name lines) ≤ 100 + length lines
length_block name lines short = simp length-append (omega arith)

-- ---- the legs of routes

length_legs : (d : ℕ → ℕ → ℕ) (from : ℕ) (cities : List ℕ) (to : ℕ) →
    length (legs d from cities to) ≡ suc (length cities)
length_legs d from [] to = refl
length_legs d from (city ∷ cities) to = ap suc (length_legs d city cities to)

length_legs_line : (i : Instance) (k : ℕ) (route : List ℕ) →
    length (legs_line (route_legs i k route)) ≤ 131 + length route * 65
length_legs_line i k route =
    omega (
      arith,
      length_spaced (route_legs i k route),
      length_legs i.distance i.depot (map (node_of i.depot) route) i.depot,
      length-map route (node_of i.depot),
      length-append (spaced_numbers (route_legs i k route)) (10 ∷ []),
    )

length_leg_lines : (i : Instance) (k : ℕ) (routes : List (List ℕ)) →
    length (flat_map legs_line (each_filled (route_legs i) k routes)) ≤ length (concat routes) * 200
length_leg_lines i k [] = omega arith
length_leg_lines i k ([] ∷ routes) = length_leg_lines i (k + 1) routes
length_leg_lines i k ((c ∷ cs) ∷ routes) =
    omega (
      arith,
      length_legs_line i k (c ∷ cs),
      length_leg_lines i (k + 1) routes,
      length-append (c ∷ cs) (concat routes),
      length-append (legs_line (route_legs i k (c ∷ cs)))
          (flat_map legs_line (each_filled (route_legs i) (k + 1) routes)),
    )

length_legs_block : (n : ℕ) (s : Subject) → n ≤ CITY_LIMIT → Fits n s →
    length (legs_block (drawing_of s)) ≤ 20000100
length_legs_block n subjects.Cities few fits = omega arith
length_legs_block n (subjects.Tour cities size) few fits = omega arith
length_legs_block n (subjects.Routes cvrp routes count cost) few fits =
    let i = instance_of cvrp in
    let all = map (λ r. r.items) routes.now in
    let lines = flat_map legs_line (each_filled (route_legs i) 1 all) in
    omega (
      arith,
      length_block (codes "legs") lines (omega arith),
      length_leg_lines i 1 all,
      AreServedOnce-short (customer_count i) (concat all) fits.1,
      fits.0,
    )

-- ---- the names of nodes

length_name_line : (name : NodeName) → length (line (shown_name name.text.items)) ≤ 12000001
length_name_line name =
    omega (
      arith,
      length_name name.text.items name.short,
      length-append (shown_name name.text.items) (10 ∷ []),
    )

length_names : (names : List NodeName) → length names ≤ CITY_LIMIT → length (names_block names) ≤ 2000000000000
length_names [] few = omega arith
length_names (name ∷ names) few =
    let all = length_joined (line (codes "<pre id=\"names\" hidden>"))
    (name_lines (name ∷ names) ∷ line (codes "</pre>") ∷ []) in
    omega (
      arith,
      few,
      length_flat_map (λ (n : NodeName). line (shown_name n.text.items)) 12000001 length_name_line (name ∷ names),
    )

-- ---- the whole

length_ending : (parts : Parts) → length (page_ending parts) ≤ 2000020
length_ending parts =
    let all = length_joined parts.tools.now
    (line (codes "<script>") ∷ parts.script.now ∷ line (codes "</script>") ∷ []) in
    omega (arith, parts.tools_short, parts.script_short)

length_page : (parts : Parts) (names : NodeNames) (f : Extent) (places : List Point) (name : List ℕ)
    (origin : Option PlacesOrigin) (s : Subject) (depot : Option ℕ) (demands : List ℕ) → length name ≤ 1024
    → length places ≤ CITY_LIMIT → Fits (length places) s → length (paths_of (drawing_of s)) ≤ 100001
    → corners_of (paths_of (drawing_of s)) ≤ 200000
    → length (page_text parts names.list.now f places name origin (drawing_of s) depot demands) ≤ 3000000000000
length_page parts names f places name origin s depot demands named few fits lines corners =
    let d = drawing_of s in
    let n = length places in
    let city = city_line f places demands depot in
    let cities = flat_map city (range_with_len 1 n) in
    let paths = flat_map path_line (paths_of d) in
    let all = length_joined (opening parts name origin n d) (picture_text f places name origin d depot
    ∷ line (codes "</div>") ∷ table d ∷ data_block (codes "cities") cities ∷ data_block (codes "paths") paths
    ∷ legs_block d ∷ names_block names.list.now ∷ page_ending parts ∷ []) in
    let p = length_opening parts name origin n d named in
    let q = length_picture f places name origin d depot named few lines corners in
    let r = length_table n s few fits in
    let t = length_block (codes "cities") cities (omega arith) in
    let u = length_flat_map city 400 (length_city f places demands depot) (range_with_len 1 n) in
    let v = length-range_with_len 1 n in
    let w = length_block (codes "paths") paths (omega arith) in
    let x = each_short path_line length_path (paths_of d) in
    let y = length_ending parts in
    let z = length_legs_block n s few fits in
    let last = length_names names.list.now names.few in
    omega arith

-- of a picture in a form
pub length_form : (form : OutputFormat) (p : Picture) → length p.name.now ≤ 1024 →
    Fits (length (places_of p.view.places)) p.subject → length (text_in form p) ≤ 2 ^ 63
length_form forms.Svg p named fits =
    let few = paths_few (length (places_of p.view.places)) p.subject fits in
    omega (
      arith,
      length_picture p.view.extent (places_of p.view.places) p.name.now p.origin (drawing_of p.subject) p.depot
          named p.view.few (omega (arith, few.0, p.view.few)) (omega (arith, few.1, p.view.few)),
    )
length_form (forms.Page parts names) p named fits =
    let few = paths_few (length (places_of p.view.places)) p.subject fits in
    omega (
      arith,
      length_page parts names p.view.extent (places_of p.view.places) p.name.now p.origin p.subject p.depot
          p.demands.now named p.view.few fits (omega (arith, few.0, p.view.few)) (omega (arith, few.1, p.view.few)),
    )
