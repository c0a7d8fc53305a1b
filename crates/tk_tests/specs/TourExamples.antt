-- Three cities for examples of the definitions of tours.
use Rattle.std.specs.Prelude.{ℕ, ◌+◌, ◌==◌, if◌then◌else◌}

-- the distances are 3 from 1 to 2, 4 from 1 to 3, and 5 from 2 to 3
abbrev pub triangle : ℕ → ℕ → ℕ
triangle a b = if a == b then 0 else a + b
