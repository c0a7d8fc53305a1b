-- The cities of an instance.
use Rattle.std.specs.Prelude.{ℕ, List, ◌≤◌, ◌-◌, slice_index}

-- c is one of the cities 1 to n
abbrev pub IsCity : ℕ → ℕ → Type 0
IsCity n c = (1 ≤ c) × (c ≤ n)

-- the city at position c of a list, counted from 1
abbrev pub city_at : List ℕ → ℕ → ℕ
city_at cities c = slice_index cities (c - 1)
