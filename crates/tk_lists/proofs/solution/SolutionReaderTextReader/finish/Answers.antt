use Rattle.std.proofs.Common.{◌≡◌, [], true, Some}
use Rattle.tk_words.specs.Texts.{DecidesEnded}
use Rattle.tk_lines.specs.Pieces.{Fault}
use Rattle.tk_lists.specs.Solution.{line_stop, solution_texts}
use Rattle.tk_lists.specs.Reader.SolutionReader.{rest_of}
use Rattle.tk_lines.proofs.KnownStates.{reported_word}
use Rattle.tk_lists.proofs.SolutionTexts.{end_stops, end_missing, end_whole}
use Rattle.tk_lists.proofs.solution.SolutionReaderTextReader.finish.Goals as goal

pub returns-in-Err : goal.returns-in-Err
returns-in-Err c = λ before waits.
    let s = c.args.self in
    let fed = waits.fed in
    rw (c.fault.ensures, c.end_line.ensures.line)
    (reported_word (λ k. line_stop fed.before s.line true (rest_of s fed.toks [] true) ≡ Some (Fault s.line k))
    (DecidesEnded solution_texts before) s.line c.in-Err.kind
    (c.in-Err.ensures.err fed.before fed.toks fed.stands) (end_stops s before fed c.in-Err.kind))

pub returns-then-not-reader : goal.returns-then-not-reader
returns-then-not-reader c = λ before waits.
    let ended = c.in-Ok.ensures.ok waits.fed.before waits.fed.toks waits.fed.stands in
    rw (c.fault-then-not-reader.ensures, c.end_line.ensures.line)
    (end_missing c.args.self before waits.fed c.end_line.new.self.form ended c.if-not-reader.true)

pub returns : goal.returns
returns c = λ before waits.
    let ended = c.in-Ok.ensures.ok waits.fed.before waits.fed.toks waits.fed.stands in
    rw c.value.ensures (end_whole c.args.self before waits.fed c.end_line.new.self.form ended c.if-not-reader.false)
