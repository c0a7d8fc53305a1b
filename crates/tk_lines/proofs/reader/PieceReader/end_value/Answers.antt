use Rattle.std.proofs.lemmas.Result.{err_from_is_err_and}
use Rattle.tk_lines.specs.Reader.Places.{at_end}
use Rattle.tk_lines.proofs.Endings.ReaderEnds.{end_in_line_end, reported_ended, end_header}
use Rattle.tk_lines.proofs.reader.PieceReader.end_value.Goals as goal

pub returns-in_err-end_header : goal.returns-in_err-end_header
returns-in_err-end_header g c = λ before fed.
    let p = err_from_is_err_and c.from_residual.result c.from_residual.ensures.1 in
    rw (p.1, p.2)
    (reported_ended g.F.Handler.promise.format before c.in_err-end_header.field-0.0
    (c.in_err-end_header.ensures.closed at_end before end_in_line_end fed))

pub returns : goal.returns
returns g c =
    λ before fed. c.end_text.ensures before
    (end_header g.F.Handler.promise.format g.F.Handler.promise.holds g.F.Handler.promise.wants
    c.end_header.new.self.form
    c.end_header.new.self.line before c.args.self.now.held c.args.word
    (c.in_ok-end_header.ensures.closed at_end before end_in_line_end fed))
