use Rattle.std.proofs.Common.{ap, Ok}
use Rattle.tk_lines.specs.declared.line_state.LineState.TheVariants as places
use Rattle.tk_lines.specs.Reader.Places.{at_end}
use Rattle.tk_lines.proofs.KnownStates.{at_place}
use Rattle.tk_lines.proofs.Endings.ReaderEnds.{end_begin, end_closes, nothing_open, reported_ended, decides_ended}
use Rattle.tk_lines.proofs.reader.PieceReader.end_bytes.Goals as goal

pub returns-in-Err : goal.returns-in-Err
returns-in-Err g c = λ before fed.
    reported_ended g.F.Handler.promise.format before c.in-Err.fault
    (c.in-Err.ensures.closed at_end before (end_closes c.args.self.now.place) fed)

pub returns-in-Ok-Whole : goal.returns-in-Ok-Whole
returns-in-Ok-Whole g c = λ before fed.
    let whole =
    rw c.in-Ok-Whole.field-0-is at
    (c.in-Ok-Whole.ensures.closed at_end before (end_closes c.args.self.now.place) fed) in
    (decides_ended g.F.Handler.promise.format before _ whole.0, whole.1)

pub returns-in-Value : goal.returns-in-Value
returns-in-Value g c = λ before fed.
    c.end_value.ensures before
    (rw c.in-Ok-On.field-0-is at (c.in-Ok-On.ensures.closed at_end before (end_closes c.args.self.now.place) fed))

pub returns-in-Begin : goal.returns-in-Begin
returns-in-Begin g c = λ before fed.
    let now =
    rw c.in-Ok-On.field-0-is at (c.in-Ok-On.ensures.closed at_end before (end_closes c.args.self.now.place) fed) in
    c.end_section.ensures before
    (end_begin g.F.Handler.promise.format g.F.Handler.promise.holds g.F.Handler.promise.wants c.close.new.self.form
    c.close.new.self.line before c.close.new.self.held (at_place places.Begin c.in-Begin.is now))

pub returns-in-Gap : goal.returns-in-Gap
returns-in-Gap g c = λ before fed.
    let now =
    rw c.in-Ok-On.field-0-is at (c.in-Ok-On.ensures.closed at_end before (end_closes c.args.self.now.place) fed) in
    c.end_section-in-Gap.ensures before (at_place places.Gap c.in-Gap.is now)

pub returns-in_default : goal.returns-in_default
returns-in_default g c = λ before fed.
    let now =
    rw c.in-Ok-On.field-0-is at (c.in-Ok-On.ensures.closed at_end before (end_closes c.args.self.now.place) fed) in
    let r = c.close.new.self in
    c.end_text.ensures before
    (nothing_open g.F.Handler.promise.format g.F.Handler.promise.holds g.F.Handler.promise.wants r.form r.line r.held
    r.scan
    before r.place (c.in-Ok-On.ensures.settled (ap Ok c.in-Ok-On.field-0-is)) c.in_default.not-Value
    c.in_default.not-Begin c.in_default.not-Gap now.at)
