use Rattle.std.proofs.Common.{◌≡◌, ℕ, ◌≤◌, ◌<◌, vec_len}
use Rattle.tk_starts.specs.PathEnds.{at, load_of}
use Rattle.tk_starts.proofs.merges.paths.Paths.new.Given as goal

abbrev pub invariant-loop-c : goal.invariant-loop-c
invariant-loop-c l = record {
  others : vec_len l.other ≡ l.places;
  weights : vec_len l.load ≡ l.places;
  own : (b : ℕ) → 1 ≤ b → b < l.c → at l.other.items b ≡ b;
  heavy : (b : ℕ) → 1 ≤ b → b < l.c → at l.load.items b ≡ load_of l.loads b;
}
