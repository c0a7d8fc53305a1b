-- Lines of output. Numbers are written by `decimal`.
use Rattle.std.specs.Prelude.{ℕ, List, [], ◌∷◌, ◌++◌, codes, decimal}
use Rattle.std.specs.List.{join_by}

-- a line with its line feed
abbrev pub line : List ℕ → List ℕ
line bytes = bytes ++ 10 ∷ []

-- numbers, separated by single spaces
abbrev pub spaced_numbers : List ℕ → List ℕ
spaced_numbers xs = join_by decimal (codes " ") xs

-- the verdict on a list: it is a tour, or its first fault
abbrev pub tour_line : ℕ → ℕ → List ℕ
tour_line cities length = line (codes "tour of " ++ decimal cities ++ codes " cities, length " ++ decimal length)

abbrev pub wrong_count_line : ℕ → ℕ → List ℕ
wrong_count_line wanted read =
    line (codes "wrong count: " ++ decimal wanted ++ codes " wanted, " ++ decimal read ++ codes " read")

abbrev pub out_of_range_line : ℕ → ℕ → List ℕ
out_of_range_line place city = line (codes "out of range at place " ++ decimal place ++ codes ": " ++ decimal city)

abbrev pub repeated_city_line : ℕ → ℕ → List ℕ
repeated_city_line place city = line (codes "repeated city at place " ++ decimal place ++ codes ": " ++ decimal city)

-- a city and its near list
abbrev pub near_line : ℕ → List ℕ → List ℕ
near_line city near = line (decimal city ++ codes ": " ++ spaced_numbers near)
