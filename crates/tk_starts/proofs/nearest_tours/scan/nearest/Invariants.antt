use Rattle.std.proofs.Common.{◌≡◌, ℕ, ◌+◌, ◌-◌, ◌<◌, length}
use Rattle.std.specs.Prelude.{slice_index}
use Rattle.tk_starts.proofs.nearest_tours.scan.nearest.Given as goal

abbrev pub invariant-loop-c : goal.invariant-loop-c
invariant-loop-c g l = (length l.cities.items ≡ l.c - 1)
    × ((i : ℕ) → i < l.c - 1 → slice_index l.cities.items i ≡ i + 1)
