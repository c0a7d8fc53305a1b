-- Counters of 64 bits.
use Rattle.std.specs.Prelude.{ℕ, ◌-◌, ◌^◌, min}

-- a count, or the maximum of the counter if the count is greater: counters saturate
abbrev pub saturated : ℕ → ℕ
saturated count = min count (2 ^ 64 - 1)
