use Rattle.std.proofs.Common.{◌≡◌, ◌+◌, ◌∷◌, ◌++◌, [], length, Some, sym, ◌∙◌}
use Rattle.std.proofs.lemmas.Result.{err_from_is_err_and}
use Rattle.tk_lines.specs.Reader.Handlers.{whole}
use Rattle.tk_lines.specs.Pieces.{Fault}
use Rattle.tk_lists.specs.Solution.{count_of, customer_stop}
use Rattle.tk_lists.specs.Reader.SolutionReader.{LineStopsAt, line_from}
use Rattle.tk_lists.specs.declared.solution_reader.LinePlace.TheVariants as places
use Rattle.tk_lines.proofs.Pieces.ReportedFaults.{reported_word}
use Rattle.tk_lists.proofs.SolutionSteps.{customer_same, customer_more, customer_stops, customer_long, token_grows}
use Rattle.tk_lists.proofs.solution_reader.SolutionReader.feed_customer.Goals as goal

pub returns-in_err-take_customer-clause-err : goal.returns-in_err-take_customer-clause-err
returns-in_err-take_customer-clause-err c = λ before toks at.
    let n = c.args.self.now.line in
    let held = c.args.self.now.held in
    let p = err_from_is_err_and c.from_residual.result c.from_residual.ensures.1 in
    rw (p.1, p.2) (reported_word (λ k. customer_stop (count_of before + length toks) (whole held n) ≡ Some (Fault n k))
    (LineStopsAt before n c.args.byte (line_from n held toks places.Customer)) c.in_err-take_customer.field-0.0
    (customer_stops before n c.args.byte held toks (sym c.blank.ensures ∙ c.if-blank.true) at.2 at.1
    c.in_err-take_customer.field-0.0)
    (rw c.as_slice.ensures at (c.in_err-take_customer.ensures.err before toks n at.0 at.1)))

pub returns-then-blank-clause-ok : goal.returns-then-blank-clause-ok
returns-then-blank-clause-ok c = λ before toks at.
    let n = c.args.self.now.line in
    let held = c.args.self.now.held in
    record {
      toks = toks ++ whole held n ∷ [];
      stands = rw c.as_slice.ensures at (c.in_ok-take_customer.ensures.ok before toks n at.0 at.1);
      same = customer_same before n c.args.byte held toks (sym c.blank.ensures ∙ c.if-blank.true) at.2;
    }

pub returns-then-is_full-clause-err : goal.returns-then-is_full-clause-err
returns-then-is_full-clause-err c = λ before toks at.
    customer_long before c.args.self.now.line c.args.byte c.args.self.now.held toks (sym c.blank.ensures
    ∙ c.if-blank.false) at.2 at.1 (c.is_full.ensures.full c.if-is_full.true)

pub returns-clause-ok : goal.returns-clause-ok
returns-clause-ok c = λ before toks at.
    let n = c.args.self.now.line in
    let held = c.args.self.now.held in
    let grows = token_grows before n c.args.byte held toks (sym c.blank.ensures ∙ c.if-blank.false) at.2
    (c.is_full.ensures.not_full c.if-is_full.false) in
    record {
      toks = toks;
      stands = rw c.push.ensures (at.0, at.1, grows);
      same = rw c.push.ensures (customer_more before n c.args.byte held toks);
    }
