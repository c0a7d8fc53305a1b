use Rattle.std.proofs.Common.{refl}
use Rattle.tk_segments.proofs.tour.SegmentTourUndoStore.reset_counts.Goals as goal

pub returns-clause-counts : goal.returns-clause-counts
returns-clause-counts c = (refl, refl, refl, refl)
