use Rattle.std.proofs.Common.{◌≡◌, ◌∙◌, Some}
use Rattle.tk_lines.specs.Pieces.{Fault, first_at}
use Rattle.tk_lines.specs.Reader.Places.{DecidesIf}
use Rattle.tk_lines.specs.declared.line_state.LineState.TheVariants as places
use Rattle.tk_lines.proofs.KnownStates.{at_place, reported_word}
use Rattle.tk_lines.proofs.LineSteps.{header_err, stop_header}
use Rattle.tk_lines.proofs.reader.PieceReader.end_header.Goals as goal

pub returns-in-Err-clause-closed : goal.returns-in-Err-clause-closed
returns-in-Err-clause-closed g c = λ next before within fed.
    let at = at_place (places.Value c.args.word) c.requires.place fed in
    rw c.fault.ensures
    (reported_word (λ k. first_at c.args.self.now.line
    (g.F.Handler.promise.format.header at.before c.args.word at.tail) ≡ Some (Fault c.args.self.now.line k))
    (DecidesIf g.F.Handler.promise.format next before) c.args.self.now.line c.in-Err.kind
    (c.in-Err.ensures.err at.before at.tail c.args.self.now.line at.holds at.scans)
    (λ p. header_err _ _ _ _ _ _ _ at.tail at.at at.header within c.in-Err.kind
    (stop_header g.F.Handler.promise.format at.before c.args.word at.tail c.args.self.now.line at.short ∙ p)))

pub returns-in-Ok-clause-closed : goal.returns-in-Ok-clause-closed
returns-in-Ok-clause-closed g c = λ next before within fed.
    let at = at_place (places.Value c.args.word) c.requires.place fed in
    let taken = c.in-Ok.ensures.ok at.before at.tail c.args.self.now.line at.holds at.scans in
    record {
      before = at.before;
      tail = at.tail;
      at = at.at;
      header = at.header;
      holds = taken.0;
      none = stop_header g.F.Handler.promise.format at.before c.args.word at.tail c.args.self.now.line at.short ∙
          taken.1;
    }
