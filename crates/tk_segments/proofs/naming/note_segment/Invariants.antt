use Rattle.std.proofs.Common.{◌≡◌, ◌≤◌, ◌<◌, ◌*◌, ◌⊎◌, ℕ, length, get_or}
use Rattle.tk_segments.proofs.naming.note_segment.Given as goal

abbrev pub invariant-loop-bucket : goal.invariant-loop-bucket
invariant-loop-bucket l = record {
  same_length : length l.table ≡ length l.initial.table;
  inside : (b : ℕ) → l.segment.low ≤ b * 32 → b < l.bucket → get_or l.table b 0 ≡ l.segment.id;
  others : (b : ℕ) → (b * 32 < l.segment.low) ⊎ (l.bucket ≤ b) → get_or l.table b 0 ≡ get_or l.initial.table b 0;
}
