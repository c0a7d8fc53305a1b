-- The sides of a rectangle.
use Rattle.std.specs.Prelude.{ℕ, ℤ, max}
use Rattle.tk_distance.specs.Distance.{gap}

-- the longer side, and at least 1
abbrev pub longer_side : ℤ → ℤ → ℤ → ℤ → ℕ
longer_side left right bottom top = max 1 (max (gap right left) (gap top bottom))
