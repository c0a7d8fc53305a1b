use Rattle.std.proofs.Common.{◌-◌, ◌∙◌, refl, sym, ap, arith, get_or}
use Rattle.tk_tour.specs.Reversal.{begun_at}
use Rattle.tk_tour.proofs.StoredTours.Places.{length-begun_at, begun_at-back}
use Rattle.tk_segments.proofs.NoSegment.{no_segment}
use Rattle.tk_segments.proofs.SeenTours.Writing.{written_at, written_more, written_all, length-written}
use Rattle.tk_segments.proofs.writing.write_seen.Goals as goal

pub write_segment_begun-requires-clause-fits : goal.write_segment_begun-requires-clause-fits
write_segment_begun-requires-clause-fits c =
    let h = c.loop-k in
    let w = written_at c.args.size h.k c.args.segments.now (get_or c.args.segments.now h.k no_segment) no_segment
    c.requires.laid
    c.loop-k-test.true refl in
    omega (arith, w.fits)

pub loop-k-preserved : goal.loop-k-preserved
loop-k-preserved c =
    let h = c.loop-k in
    let n = c.args.size in
    let m = n - c.args.begin in
    let segment = get_or c.args.segments.now h.k no_segment in
    let new = c.write_segment_begun.new.list in
    let size = length-begun_at m h.list ∙ h.invariant.size in
    record {
      size = sym (length-begun_at m new)
          ∙ length-written n h.k c.args.segments.now segment no_segment c.args.order.now (begun_at m h.list)
          (begun_at m new)
          c.requires.laid c.loop-k-test.true refl (omega (arith, c.requires.length)) size c.write_segment_begun.ensures;
      written = written_more n h.k c.args.segments.now segment no_segment c.args.order.now (begun_at m h.list)
          (begun_at m new)
          c.requires.laid c.loop-k-test.true refl (omega (arith, c.requires.length)) size h.invariant.written
          c.write_segment_begun.ensures;
    }

pub returns : goal.returns
returns c =
    let h = c.loop-k in
    let n = c.args.size in
    let b = c.args.begin in
    sym (begun_at-back n b h.list h.invariant.size (omega (arith, c.requires.begin)))
    ∙ ap (begun_at b) (written_all n h.k c.args.segments.now c.args.order.now (begun_at (n - b) h.list) c.requires.laid
    c.loop-k-test.false (length-begun_at (n - b) h.list ∙ h.invariant.size) h.invariant.written)
