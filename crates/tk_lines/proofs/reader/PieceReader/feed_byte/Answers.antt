use Rattle.std.proofs.Common.{◌∙◌, sym}
use Rattle.tk_lines.specs.Reader.Places.{this}
use Rattle.tk_lines.proofs.KnownStates.{reported_byte, this_ends}
use Rattle.tk_lines.proofs.OneByteAfter.{narrow}
use Rattle.tk_lines.proofs.LineSteps.{decides_byte}
use Rattle.tk_lines.proofs.reader.PieceReader.feed_byte.Goals as goal

pub feed_settled-requires-clause-known : goal.feed_settled-requires-clause-known
feed_settled-requires-clause-known g c = (c.requires.known.0, narrow (this c.args.byte) c.requires.known.1)

pub returns-then-not-ends_with : goal.returns-then-not-ends_with
returns-then-not-ends_with g c = λ before fed. c.feed_settled.ensures before (narrow (this c.args.byte) fed)

pub returns-in-Err : goal.returns-in-Err
returns-in-Err g c = λ before fed.
    reported_byte g.F.Handler.promise.format c.args.byte before c.in-Err.fault
    (c.in-Err.ensures.closed (this c.args.byte) before
    (this_ends c.args.byte c.args.self.now.place (sym c.ends_with.ensures ∙ c.if-not-ends_with.false))
    (narrow (this c.args.byte) fed))

pub returns-in-Ok-Whole : goal.returns-in-Ok-Whole
returns-in-Ok-Whole g c = λ before fed.
    let whole =
    rw c.in-Ok-Whole.field-0-is at
    (c.in-Ok-Whole.ensures.closed (this c.args.byte) before
    (this_ends c.args.byte c.args.self.now.place (sym c.ends_with.ensures ∙ c.if-not-ends_with.false))
    (narrow (this c.args.byte) fed)) in
    (decides_byte g.F.Handler.promise.format c.args.byte before _ whole.0, whole.1)

pub feed_settled-requires-in-Ok-On-clause-known : goal.feed_settled-requires-in-Ok-On-clause-known
feed_settled-requires-in-Ok-On-clause-known g c = (
  c.requires.known.0,
  rw c.in-Ok-On.field-0-is at
      (c.in-Ok-On.ensures.closed (this c.args.byte) c.requires.known.0
      (this_ends c.args.byte c.args.self.now.place (sym c.ends_with.ensures ∙ c.if-not-ends_with.false))
      (narrow (this c.args.byte) c.requires.known.1)),
)

pub returns-in-Ok-On : goal.returns-in-Ok-On
returns-in-Ok-On g c =
    λ before fed. c.feed_settled-in-Ok-On.ensures before
    (rw c.in-Ok-On.field-0-is at
    (c.in-Ok-On.ensures.closed (this c.args.byte) before
    (this_ends c.args.byte c.args.self.now.place (sym c.ends_with.ensures ∙ c.if-not-ends_with.false))
    (narrow (this c.args.byte) fed)))
