use Rattle.std.proofs.Common.{◌≤◌, IsPermutation}
use Rattle.tk_near.proofs.plane.partition_at_median.part.Given as goal

abbrev pub invariant-loop-i : goal.invariant-loop-i
invariant-loop-i l = (l.count ≤ l.i) × IsPermutation l.fn.row l.row
