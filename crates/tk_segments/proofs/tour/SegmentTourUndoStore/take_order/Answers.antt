use Rattle.std.proofs.Common.{refl}
use Rattle.tk_segments.proofs.tour.SegmentTourUndoStore.take_order.Goals as goal

pub returns-clause-writes : goal.returns-clause-writes
returns-clause-writes c = refl
