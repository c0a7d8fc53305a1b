use Rattle.std.proofs.Common.{◌≡◌, ◌∷◌, ◌++◌, ◌+◌, [], Bool, true, List, Some, length}
use Rattle.std.proofs.lemmas.Result.{err_from_is_err_and, IfOk-weaker, IfErr-weaker}
use Rattle.tk_lines.specs.Reader.Handlers.{whole}
use Rattle.tk_words.specs.Lex.{Token}
use Rattle.tk_lines.specs.Pieces.{Fault}
use Rattle.tk_lists.specs.Solution.{line_stop, count_of, customer_stop, cost_stop}
use Rattle.tk_lists.specs.Reader.SolutionReader.{line_from}
use Rattle.tk_lists.specs.declared.solution_reader.LinePlace.TheVariants as places
use Rattle.tk_lines.proofs.Pieces.ReportedFaults.{reported_word}
use Rattle.tk_lists.proofs.SolutionEnds.{end_start, end_skip, end_other, end_close, end_gap, end_customer}
use Rattle.tk_lists.proofs.SolutionEnds.{end_customer_stops, end_digits, end_digits_stops, end_colon_stops}
use Rattle.tk_lists.proofs.solution_reader.SolutionReader.end_line.Goals as goal

pub returns-in-Start-clause-ok : goal.returns-in-Start-clause-ok
returns-in-Start-clause-ok c = λ before toks stands.
    rw c.in-Start.is
    (end_start c.args.self.now.form before c.args.self.now.held c.args.self.now.line toks
    (rw c.in-Start.is at stands))

pub returns-in-Skip-clause-ok : goal.returns-in-Skip-clause-ok
returns-in-Skip-clause-ok c = λ before toks stands.
    rw c.in-Skip.is
    (end_skip c.args.self.now.form before c.args.self.now.held c.args.self.now.line toks
    (rw c.in-Skip.is at stands))

pub returns-in-Close-clause-ok : goal.returns-in-Close-clause-ok
returns-in-Close-clause-ok c = λ before toks stands.
    rw c.in-Close.is
    (end_close c.args.self.now.form before c.args.self.now.held c.args.self.now.line toks
    (rw c.in-Close.is at stands))

pub returns-in-Word-clause-ok : goal.returns-in-Word-clause-ok
returns-in-Word-clause-ok c = λ before toks stands.
    let at = rw c.in-Word.is at stands in
    rw c.in-Word.is
    (IfOk-weaker c.end_word.result
    _ _ (λ _ h. end_other c.args.self.now.form before c.args.self.now.held c.args.self.now.line toks at.1 h.0 h.1)
    (c.end_word.ensures.ok before at.1))

pub returns-in-Colon-clause-err : goal.returns-in-Colon-clause-err
returns-in-Colon-clause-err c = λ before toks stands.
    rw c.in-Colon.is (end_colon_stops c.args.self.now.form before c.args.self.now.held c.args.self.now.line toks
    (rw c.in-Colon.is at stands).2)

pub returns-in-Price-clause-err : goal.returns-in-Price-clause-err
returns-in-Price-clause-err c = λ before toks stands.
    rw c.in-Price.is (end_colon_stops c.args.self.now.form before c.args.self.now.held c.args.self.now.line toks
    (rw c.in-Price.is at stands).2)

pub returns-in-Gap-clause-ok : goal.returns-in-Gap-clause-ok
returns-in-Gap-clause-ok c = λ before toks stands.
    let at = rw c.in-Gap.is at stands in
    rw c.in-Gap.is
    (IfOk-weaker c.end_route.result
    _ _ (λ _ h. end_gap c.end_route.new.self before c.args.self.now.held c.args.self.now.line toks at.1 h)
    (c.end_route.ensures.ok before toks at.0 at.1))

pub returns-in_err-take_customer-in-Customer-clause-err : goal.returns-in_err-take_customer-in-Customer-clause-err
returns-in_err-take_customer-in-Customer-clause-err c = λ before toks stands.
    let n = c.args.self.now.line in
    let held = c.args.self.now.held in
    let k = c.in_err-take_customer-in-Customer.field-0.0 in
    let at = rw c.in-Customer.is at stands in
    let p = err_from_is_err_and c.from_residual.result c.from_residual.ensures.1 in
    rw (c.in-Customer.is, p.1, p.2)
    (reported_word (λ k. customer_stop (count_of before + length toks) (whole held n) ≡ Some (Fault n k))
    (λ k. line_stop before n true (line_from n held toks places.Customer [] true) ≡ Some (Fault n k)) k
    (end_customer_stops c.args.self.now.form before held n toks at.2 at.1 k)
    (rw c.as_slice.ensures at (c.in_err-take_customer-in-Customer.ensures.err before toks n at.0 at.1)))

pub returns-in_ok-take_customer-in-Customer-clause-ok : goal.returns-in_ok-take_customer-in-Customer-clause-ok
returns-in_ok-take_customer-in-Customer-clause-ok c = λ before toks stands.
    let n = c.args.self.now.line in
    let held = c.args.self.now.held in
    let at = rw c.in-Customer.is at stands in
    let taken = rw c.as_slice.ensures at (c.in_ok-take_customer-in-Customer.ensures.ok before toks n at.0 at.1) in
    rw c.in-Customer.is
    (IfOk-weaker c.end_route-in-Customer.result
    _ _ (λ _ h. end_customer c.end_route-in-Customer.new.self before held n toks at.2 taken.1 h)
    (c.end_route-in-Customer.ensures.ok before (toks ++ whole held n ∷ []) taken.0 taken.1))

pub returns-in-Digits-clause-ok : goal.returns-in-Digits-clause-ok
returns-in-Digits-clause-ok c = λ before toks stands.
    let n = c.args.self.now.line in
    let at = rw c.in-Digits.is at stands in
    rw c.in-Digits.is
    (IfOk-weaker c.take_cost.result
    _ _ (λ _ h. end_digits c.take_cost.new.self before c.args.self.now.held n toks at.3 h)
    (rw c.as_slice-in-Digits.ensures at (c.take_cost.ensures.ok before n at.1 at.2)))

pub returns-in-Digits-clause-err : goal.returns-in-Digits-clause-err
returns-in-Digits-clause-err c = λ before toks stands.
    let n = c.args.self.now.line in
    let held = c.args.self.now.held in
    let at = rw c.in-Digits.is at stands in
    rw c.in-Digits.is
    (IfErr-weaker c.take_cost.result
    _ _ (λ k h. reported_word (λ k. (ended : Bool) (ts : List Token) →
    cost_stop n ended (whole held n ∷ ts) ≡ Some (Fault n k))
    (λ k. line_stop before n true (line_from n held toks places.Digits [] true) ≡ Some (Fault n k)) k
    (end_digits_stops c.args.self.now.form before held n toks at.3 at.2 k) h)
    (rw c.as_slice-in-Digits.ensures at (c.take_cost.ensures.err before n at.1 at.2)))
