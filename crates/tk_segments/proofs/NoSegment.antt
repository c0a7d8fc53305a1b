-- The segment that a read past the end of a list returns.
use Rattle.std.proofs.Common.{false}
use Rattle.tk_segments.specs.declared.segment.Segment.{Segment}

abbrev pub no_segment : Segment
no_segment = record { low = 0; high = 0; start = 0; id = 0; next = 0; back = false }
