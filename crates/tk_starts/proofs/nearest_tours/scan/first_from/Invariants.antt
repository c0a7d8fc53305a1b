use Rattle.std.proofs.Common.{◌≡◌, ℕ, ◌-◌, ◌<◌, ◌≤◌}
use Rattle.std.specs.Prelude.{slice_index}
use Rattle.tk_near.specs.Keeping.{rank, candidate}
use Rattle.tk_starts.proofs.nearest_tours.scan.first_from.Given as goal

abbrev pub invariant-loop-i : goal.invariant-loop-i
invariant-loop-i g l =
    (l.j ≤ l.at) × (l.at < l.i)
    × (l.best ≡ candidate (g.M.Metric.distance l.metric) (slice_index l.cities (l.j - 1))
    (slice_index l.cities l.at)) ×
    ((i : ℕ) → l.j ≤ i → i < l.i →
    rank l.best ≤ rank
    (candidate (g.M.Metric.distance l.metric) (slice_index l.cities (l.j - 1)) (slice_index l.cities i)))
