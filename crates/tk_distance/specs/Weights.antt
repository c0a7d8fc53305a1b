-- The distances of a problem.
use Rattle.std.specs.Prelude.{ℕ, List, ◌+◌, ◌-◌, ◌*◌, ◌/◌, ◌==◌, min, max, slice_index, if◌then◌else◌}
use Rattle.tk_problem.specs.declared.weights.Weights.{Weights}
use Rattle.tk_problem.specs.declared.weights.Weights.TheVariants.{Points, Lower}
use Rattle.tk_distance.specs.PlaneOf.{city_distance}

-- the index of the weight of two cities, in a lower triangle that is stored row by row without its diagonal: the rows
-- of the cities 2 to high - 1 have 1, 2 .. high - 2 weights
abbrev pub triangle_index : ℕ → ℕ → ℕ
triangle_index low high = (high - 1) * (high - 2) / 2 + (low - 1)

-- the explicit weight of two cities
abbrev pub weight_between : List ℕ → ℕ → ℕ → ℕ
weight_between weights a b = if a == b then 0 else slice_index weights (triangle_index (min a b) (max a b))

-- the distance of two cities of a problem
abbrev pub problem_distance : Weights → ℕ → ℕ → ℕ
problem_distance (Points kind places) a b = city_distance kind places a b
problem_distance (Lower weights) a b = weight_between weights.items a b
