-- Pairs and loads for examples of joints.
use Rattle.std.specs.Prelude.{ℕ, ◌==◌, if◌then◌else◌}
use Rattle.tk_starts.specs.declared.merges.pairs.Pair.{Pair}

-- the pair of i and j, with this saving
abbrev pub pair : ℕ → ℕ → ℕ → Pair
pair s i j = record { saving = record { 0 = s }; i = i; j = j }

-- a load of 1 for each city except city 1
abbrev pub one_each : ℕ → ℕ
one_each c = if c == 1 then 0 else 1
