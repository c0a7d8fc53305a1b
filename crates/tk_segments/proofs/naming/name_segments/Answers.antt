use Rattle.std.proofs.Common.{◌∙◌, arith}
use Rattle.std.proofs.lemmas.List.{length-set}
use Rattle.tk_segments.proofs.NoSegment.{no_segment}
use Rattle.tk_segments.proofs.SeenTours.Names.{named_more}
use Rattle.tk_segments.proofs.naming.name_segments.Goals as goal

pub loop-index-preserved : goal.loop-index-preserved
loop-index-preserved c =
    let h = c.loop-index in
    record {
      same_length = length-set h.home _ h.index ∙ h.invariant.same_length;
      named = named_more c.args.segments.now h.home h.index no_segment c.requires.names c.loop-index-test.true
          (omega (arith, h.invariant.same_length, c.requires.many)) h.invariant.named;
    }
