use Rattle.std.proofs.Common.{◌≡◌, Some}
use Rattle.std.proofs.lemmas.Result.{err_from_is_err_and}
use Rattle.tk_problem.specs.declared.limits.TheConstants.{ENTRY_LIMIT}
use Rattle.tk_words.specs.declared.keyword.Keyword.TheVariants as words
use Rattle.tk_lines.specs.Pieces.{first_at, Fault}
use Rattle.tk_lines.specs.HeaderValue.{first_word}
use Rattle.tk_words.specs.Entry.{number_tests}
use Rattle.tk_lists.specs.Tour.{tour_header}
use Rattle.tk_lines.proofs.Headers.HeaderNumbers.{tests_fine}
use Rattle.tk_lists.proofs.Tours.{dimension_ok, dimension_err}
use Rattle.tk_lines.proofs.Pieces.ReportedFaults.{reported_word}
use Rattle.tk_lists.proofs.tour.TourHandler.dimension.Goals as goal

pub returns-in_err-number-clause-err : goal.returns-in_err-number-clause-err
returns-in_err-number-clause-err c = λ before v n h scans.
    let p = err_from_is_err_and c.from_residual-in_err-number.result c.from_residual-in_err-number.ensures.1 in
    let k = c.in_err-number.field-0.0 in
    rw (p.1, p.2)
    (reported_word (λ k. first_at n (number_tests 1 ENTRY_LIMIT (first_word v)) ≡ Some (Fault n k))
    (λ k. first_at n (tour_header before words.Dimension v) ≡ Some (Fault n k)) k
    (dimension_err c.args.self.now before v n k h c.in_ok-once.ensures.ok.0)
    (c.in_err-number.ensures.err v n scans))

pub returns-clause-ok : goal.returns-clause-ok
returns-clause-ok c = λ before v n h scans.
    let p = c.in_ok-once.ensures.ok in
    dimension_ok c.args.self.now c.once.new.seen before v n h p.1 p.0
    (tests_fine 1 ENTRY_LIMIT n (first_word v) c.in_ok-number.field-0 (c.in_ok-number.ensures.ok v scans))
