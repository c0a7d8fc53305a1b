use Rattle.std.proofs.Common.{◌≡◌, ℕ, ◌≤◌, ◌<◌, length}
use Rattle.tk_starts.specs.PathEnds.{at}
use Rattle.tk_starts.proofs.merges.pairs.hub_distances.Given as goal

abbrev pub invariant-loop-c : goal.invariant-loop-c
invariant-loop-c g l = record {
  places : length l.distances.items ≡ l.places;
  each : (b : ℕ) → 1 ≤ b → b < l.c → at l.distances.items b ≡ g.M.Metric.distance l.metric l.hub b;
}
