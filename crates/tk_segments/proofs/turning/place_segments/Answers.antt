use Rattle.std.proofs.Common.{◌<◌, length, ap, arith, get_or}
use Rattle.tk_segments.specs.Segments.{segment_size}
use Rattle.tk_segments.proofs.NoSegment.{no_segment}
use Rattle.tk_segments.proofs.SeenTours.Placing.{placed-more, sum_sizes-more}
use Rattle.tk_segments.proofs.turning.place_segments.Goals as goal

pub loop-k-preserved : goal.loop-k-preserved
loop-k-preserved c =
    let h = c.loop-k in
    let xs = c.args.segments.now in
    let lt : h.k < length xs = c.loop-k-test.true in
    let more = sum_sizes-more h.k xs h.segments c.args.v no_segment lt h.invariant.segments in
    record {
      segments = placed-more c.args.v h.v h.k xs h.segments (get_or h.segments h.k no_segment) no_segment lt
          h.invariant.segments
          h.invariant.v more.0;
      v = omega (arith, h.invariant.v, more.1, ap segment_size more.0);
    }
