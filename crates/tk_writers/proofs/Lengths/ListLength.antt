-- How long the texts of a tour and of a solution are at most.
use Rattle.std.proofs.Common.{ℕ, ◌+◌, ◌*◌, ◌≤◌, List, [], ◌∷◌, ◌++◌, length, arith, length-append}
use Rattle.std.specs.Prelude.{flat_map, codes, decimal}
use Rattle.std.specs.List.{concat}
use Rattle.tk_problem.specs.declared.limits.TheConstants.{ENTRY_LIMIT, ROUTE_LIMIT, TEXT_LIMIT}
use Rattle.tk_writers.specs.TourWritten.{tour_head, tour_text}
use Rattle.tk_writers.specs.SolutionWritten.{written_route, written_routes, solution_text}
use Rattle.tk_writers.specs.Written.{line, spaced_numbers}
use Rattle.tk_writers.proofs.Pieces.NumberLengths.{length_decimal, length_flat_map}

length_tour_head : (name : List ℕ) (size cities : ℕ) →
    length (flat_map line (tour_head name size cities)) ≤ length name + 300
length_tour_head name size cities =
    let number = length_decimal size in
    let count = length_decimal cities in
    simp length-append (omega arith)

pub length_tour_text : (name : List ℕ) (size : ℕ) (cities : List ℕ) → length name ≤ 1024 → length cities ≤ ENTRY_LIMIT →
    length (tour_text name size cities) ≤ TEXT_LIMIT
length_tour_text name size cities short few =
    let head = length_tour_head name size (length cities) in
    let start = flat_map line (tour_head name size (length cities)) in
    let body = flat_map (λ c. line (decimal c)) cities in
    let lines =
    length_flat_map (λ c. line (decimal c)) 65
    (λ c. omega (arith, length_decimal c, length-append (decimal c) (10 ∷ []))) cities in
    omega (
      arith,
      length-append start body,
      length-append (start ++ body) (flat_map line (codes "-1" ∷ codes "EOF" ∷ [])),
    )

length_spaced : (xs : List ℕ) → length (spaced_numbers xs) ≤ length xs * 65
length_spaced [] = omega arith
length_spaced (x ∷ xs) =
    let rest = length_flat_map (λ y. codes " " ++ decimal y) 65 (λ y. omega (arith, length_decimal y)) xs in
    omega (arith, length_decimal x, length-append (decimal x) (flat_map (λ y. codes " " ++ decimal y) xs))

length_route_line : (number : ℕ) (customers : List ℕ) →
    length (written_route number customers) ≤ 80 + length customers * 65
length_route_line number customers =
    let digits = length_decimal number in
    let row = length_spaced customers in
    simp length-append (omega arith)

length_route_lines : (number : ℕ) (rs : List (List ℕ)) →
    length (written_routes number rs) ≤ length rs * 80 + length (concat rs) * 65
length_route_lines number [] = omega arith
length_route_lines number (r ∷ rs) =
    let one = length_route_line number r in
    let rest = length_route_lines (number + 1) rs in
    omega (arith, length-append (written_route number r) (written_routes (number + 1) rs), length-append r (concat rs))

pub length_solution_text : (routes : List (List ℕ)) (cost : ℕ) → length routes ≤ ROUTE_LIMIT →
    length (concat routes) ≤ ENTRY_LIMIT → length (solution_text routes cost) ≤ TEXT_LIMIT
length_solution_text routes cost few customers =
    let lines = length_route_lines 1 routes in
    let number = length_decimal cost in
    omega (
      arith,
      length-append (written_routes 1 routes) (line (codes "Cost " ++ decimal cost)),
      length-append (decimal cost) (10 ∷ []),
    )
