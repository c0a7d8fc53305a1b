use Rattle.std.proofs.Common.{◌≡◌, ◌-◌, length, take}
use Rattle.std.specs.Prelude.{sum_by}
use Rattle.tk_tour.specs.Reversal.{begun_at}
use Rattle.tk_segments.specs.Segments.{shown, segment_size}
use Rattle.tk_segments.proofs.writing.write_seen.Given as goal

abbrev pub invariant-loop-k : goal.invariant-loop-k
invariant-loop-k l = record {
  size : length l.list ≡ l.size;
  written : take (sum_by segment_size (take l.k l.segments)) (begun_at (l.size - l.begin) l.list) ≡ shown l.order
      (take l.k l.segments);
}
