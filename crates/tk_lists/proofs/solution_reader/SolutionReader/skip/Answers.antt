use Rattle.std.proofs.Common.{◌≡◌, Some}
use Rattle.std.proofs.lemmas.Result.{err_from_is_err_and}
use Rattle.tk_lines.specs.Pieces.{Fault, first_at}
use Rattle.tk_lists.specs.Solution.{Other, other_tests}
use Rattle.tk_lists.specs.Reader.SolutionReader.{LineStopsAt}
use Rattle.tk_lines.proofs.Pieces.ReportedFaults.{reported_word}
use Rattle.tk_lists.proofs.solution_reader.SolutionReader.skip.Goals as goal

pub returns-in_err-skip-clause-err : goal.returns-in_err-skip-clause-err
returns-in_err-skip-clause-err c = λ before k.
    let n = c.args.self.now.line in
    let p = err_from_is_err_and c.from_residual.result c.from_residual.ensures.1 in
    rw (p.1, p.2)
    (reported_word (λ k. first_at n (other_tests before) ≡ Some (Fault n k))
    (LineStopsAt before n c.args.byte (λ bs w. Other)) c.in_err-skip.field-0.0 (λ h bs w. h)
    (c.in_err-skip.ensures.err before n k))
