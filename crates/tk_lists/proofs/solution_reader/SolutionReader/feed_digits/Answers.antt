use Rattle.std.proofs.Common.{◌≡◌, ◌∷◌, [], Bool, List, Some, refl, sym, ◌∙◌}
use Rattle.std.proofs.lemmas.Result.{err_from_is_err_and}
use Rattle.tk_lines.specs.Reader.Handlers.{whole}
use Rattle.tk_words.specs.Lex.{Token}
use Rattle.tk_lines.specs.Pieces.{Fault}
use Rattle.tk_lists.specs.Solution.{cost_stop}
use Rattle.tk_lists.specs.Reader.SolutionReader.{LineStopsAt, line_from}
use Rattle.tk_lists.specs.declared.solution_reader.LinePlace.TheVariants as places
use Rattle.tk_lines.proofs.Pieces.ReportedFaults.{reported_word}
use Rattle.tk_lists.proofs.SolutionSteps.{cost_same, cost_more, cost_stops, cost_long, token_grows}
use Rattle.tk_lists.proofs.solution_reader.SolutionReader.feed_digits.Goals as goal

pub returns-in_err-take_cost-clause-err : goal.returns-in_err-take_cost-clause-err
returns-in_err-take_cost-clause-err c = λ before toks at.
    let n = c.args.self.now.line in
    let held = c.args.self.now.held in
    let k = c.in_err-take_cost.field-0.0 in
    let p = err_from_is_err_and c.from_residual.result c.from_residual.ensures.1 in
    rw (p.1, p.2)
    (reported_word (λ k. (ended : Bool) (ts : List Token) → cost_stop n ended (whole held n ∷ ts) ≡ Some (Fault n k))
    (LineStopsAt before n c.args.byte (line_from n held toks places.Digits)) k
    (cost_stops before n c.args.byte held (sym c.blank.ensures ∙ c.if-blank.true) at.3 at.2 k)
    (rw c.as_slice.ensures at (c.in_err-take_cost.ensures.err before n at.1 at.2)))

pub returns-then-blank-clause-ok : goal.returns-then-blank-clause-ok
returns-then-blank-clause-ok c = λ before toks at.
    let n = c.args.self.now.line in
    let held = c.args.self.now.held in
    record {
      toks = whole held n ∷ [];
      stands = rw c.as_slice.ensures at (c.in_ok-take_cost.ensures.ok before n at.1 at.2);
      same = cost_same before n c.args.byte held (sym c.blank.ensures ∙ c.if-blank.true) at.3;
    }

pub returns-then-is_full-clause-err : goal.returns-then-is_full-clause-err
returns-then-is_full-clause-err c = λ before toks at.
    cost_long before c.args.self.now.line c.args.byte c.args.self.now.held (sym c.blank.ensures ∙ c.if-blank.false) at.3
    at.2 (c.is_full.ensures.full c.if-is_full.true)

pub returns-clause-ok : goal.returns-clause-ok
returns-clause-ok c = λ before toks at.
    let n = c.args.self.now.line in
    let held = c.args.self.now.held in
    let grows = token_grows before n c.args.byte held [] (sym c.blank.ensures ∙ c.if-blank.false) at.3
    (c.is_full.ensures.not_full c.if-is_full.false) in
    record {
      toks = [];
      stands = rw c.push.ensures (refl, at.1, at.2, grows);
      same = rw c.push.ensures (cost_more before n c.args.byte held);
    }
