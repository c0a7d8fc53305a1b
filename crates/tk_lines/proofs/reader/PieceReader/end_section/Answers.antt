use Rattle.std.proofs.Common.{◌≡◌, Some, true}
use Rattle.tk_lines.specs.Pieces.{Early, Fault}
use Rattle.tk_lines.specs.Reader.Steps.{IsAnswered}
use Rattle.tk_lines.proofs.KnownStates.{reported_word}
use Rattle.tk_lines.proofs.Endings.ReaderEnds.{end_section, end_section_err}
use Rattle.tk_lines.proofs.reader.PieceReader.end_section.Goals as goal

pub returns-in-Err : goal.returns-in-Err
returns-in-Err g c = λ before a.
    rw c.fault.ensures
    (reported_word (λ k. g.F.Handler.promise.format.section a.before a.word a.first a.toks
    (Early c.args.self.now.line true) ≡ Some (Fault c.args.self.now.line k))
    (IsAnswered g.F.Handler.promise.format before) c.args.self.now.line c.in-Err.kind
    (c.in-Err.ensures.err a.before a.word a.first a.toks c.args.self.now.line a.wants)
    (end_section_err g.F.Handler.promise.format g.F.Handler.promise.holds g.F.Handler.promise.wants c.args.self.now.form
    c.args.self.now.line before c.in-Err.kind a))

pub returns-in-Ok : goal.returns-in-Ok
returns-in-Ok g c = λ before a.
    let taken = c.in-Ok.ensures.ok a.before a.word a.first a.toks c.args.self.now.line a.wants in
    c.end_text.ensures before
    (end_section g.F.Handler.promise.format g.F.Handler.promise.holds g.F.Handler.promise.wants c.args.self.now.form
    c.args.self.now.line before c.end_section.new.self a taken.0 taken.1)
