use Rattle.tk_segments.proofs.tour.SegmentTour.segments.Goals as goal

pub returns-clause-count : goal.returns-clause-count
returns-clause-count c = c.segment_count.ensures.count
