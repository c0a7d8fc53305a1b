use Rattle.std.proofs.Common.{◌<◌, ◌+◌, ◌-◌, ◌/◌, ℕ, arith}
use Rattle.tk_segments.proofs.NoSegment.{no_segment}
use Rattle.tk_segments.proofs.SeenTours.Searching.{start_is}
use Rattle.tk_segments.proofs.spots.index_at.Goals as goal

pub loop-high-preserved-then-segments-middle : goal.loop-high-preserved-then-segments-middle
loop-high-preserved-then-segments-middle c =
    let h = c.loop-high in
    let middle : ℕ = h.low + (h.high - h.low) / 2 in
    let lt : middle < h.high = omega (arith, c.loop-high-test.true) in
    let s = start_is _ middle _ no_segment c.requires.laid (omega (arith, lt, h.invariant.high_in)) in
    record {
      order = lt;
      high_in = h.invariant.high_in;
      from = omega (arith, s, c.if-segments-middle.true);
      to = h.invariant.to;
    }

pub loop-high-preserved : goal.loop-high-preserved
loop-high-preserved c =
    let h = c.loop-high in
    let middle : ℕ = h.low + (h.high - h.low) / 2 in
    let lt : middle < h.high = omega (arith, c.loop-high-test.true) in
    let s = start_is _ middle _ no_segment c.requires.laid (omega (arith, lt, h.invariant.high_in)) in
    record {
      order = omega (arith, c.loop-high-test.true);
      high_in = omega (arith, lt, h.invariant.high_in);
      from = h.invariant.from;
      to = omega (arith, s, c.if-segments-middle.false);
    }
