use Rattle.tk_lines.specs.Reader.Places.{this, a_gap}
use Rattle.tk_lines.proofs.KnownStates.{reported_byte, this_within}
use Rattle.tk_lines.proofs.LineSteps.{decides_byte}
use Rattle.tk_lines.proofs.reader.PieceReader.feed_whole.Goals as goal

pub returns-in-Err : goal.returns-in-Err
returns-in-Err g c = λ before stands.
    reported_byte g.F.Handler.promise.format c.args.byte before c.in-Err.fault
    (c.in-Err.ensures.taken (this c.args.byte) before
    (this_within c.args.byte a_gap (λ e more. c.requires.gap)) c.requires.run.0 stands)

pub returns-in-Ok-Whole : goal.returns-in-Ok-Whole
returns-in-Ok-Whole g c = λ before stands.
    let whole =
    rw c.in-Ok-Whole.field-0-is at
    (c.in-Ok-Whole.ensures.taken (this c.args.byte) before
    (this_within c.args.byte a_gap (λ e more. c.requires.gap)) c.requires.run.0 stands) in
    (decides_byte g.F.Handler.promise.format c.args.byte before _ whole.0, whole.1)

pub feed_next-requires-clause-known : goal.feed_next-requires-clause-known
feed_next-requires-clause-known g c = (
  c.requires.known.0,
  rw c.in-Ok-On.field-0-is at
      (c.in-Ok-On.ensures.taken (this c.args.byte) c.requires.known.0
      (this_within c.args.byte a_gap (λ e more. c.requires.gap)) c.requires.run.0 c.requires.known.1),
)

pub returns-in-Ok-On : goal.returns-in-Ok-On
returns-in-Ok-On g c =
    λ before stands. c.feed_next.ensures before
    (rw c.in-Ok-On.field-0-is at
    (c.in-Ok-On.ensures.taken (this c.args.byte) before
    (this_within c.args.byte a_gap (λ e more. c.requires.gap)) c.requires.run.0 stands))
