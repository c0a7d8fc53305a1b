-- The text of a solution (the CVRPLIB format).
use Rattle.std.specs.Prelude.{ℕ, ◌+◌, List, [], ◌∷◌, ◌++◌, codes, decimal}
use Rattle.tk_writers.specs.Written.{line, spaced_numbers}

-- the line of a route: its number and its customers
abbrev pub written_route : ℕ → List ℕ → List ℕ
written_route number customers = line (codes "Route #" ++ decimal number ++ codes ": " ++ spaced_numbers customers)

-- the lines of routes, numbered from this number
abbrev pub written_routes : ℕ → List (List ℕ) → List ℕ
written_routes number [] = []
written_routes number (r ∷ rs) = written_route number r ++ written_routes (number + 1) rs

abbrev pub solution_text : List (List ℕ) → ℕ → List ℕ
solution_text routes cost = written_routes 1 routes ++ line (codes "Cost " ++ decimal cost)
