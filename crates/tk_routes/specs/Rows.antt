-- Distances in a table, row by row.
use Rattle.std.specs.Prelude.{◌≡◌, ℕ, ◌+◌, ◌/◌, ◌%◌, ◌<◌, List, length, slice_index_or}

-- the distances from city 1 to the cities 1 to n, then those from city 2, and so on
abbrev pub AreRows : (ℕ → ℕ → ℕ) → ℕ → List ℕ → Type 0
AreRows dist n rows = (j : ℕ) → j < length rows → slice_index_or rows j 0 ≡ dist (j / n + 1) (j % n + 1)
