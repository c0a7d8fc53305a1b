use Rattle.std.proofs.Common.{◌≡◌, [], true, Some, refl}
use Rattle.std.proofs.lemmas.Result.{err_from_is_err_and, IfOk-weaker, IfErr-weaker}
use Rattle.tk_lines.specs.Pieces.{Fault, first_at}
use Rattle.tk_lists.specs.Solution.{solid_line, line_stop, route_head, route_tests, cost_tests, other_tests}
use Rattle.tk_lines.proofs.Pieces.ReportedFaults.{reported_word}
use Rattle.tk_lists.proofs.SolutionWords.{whole_route, whole_cost, whole_other, route_stops}
use Rattle.tk_lists.proofs.solution_reader.SolutionReader.end_word.Goals as goal

pub returns-in_err-begin_route-in-Route-clause-err : goal.returns-in_err-begin_route-in-Route-clause-err
returns-in_err-begin_route-in-Route-clause-err c = λ before keeps.
    let n = c.args.self.now.line in
    let held = c.args.self.now.held in
    let k = c.in_err-begin_route-in-Route.field-0.0 in
    let same = whole_route n held c.requires (rw c.as_slice.ensures at c.in-Route.ensures) in
    let p = err_from_is_err_and c.from_residual.result c.from_residual.ensures.1 in
    rw (p.1, p.2)
    (reported_word (λ k. first_at n (route_tests before) ≡ Some (Fault n k))
    (λ k. line_stop before n true (solid_line n true held) ≡ Some (Fault n k)) k
    (λ stop. rw same (route_stops before n true (Fault n k) (route_head []) stop))
    (c.in_err-begin_route-in-Route.ensures.err before n keeps))

pub returns-in_err-begin_cost-in-Cost-clause-err : goal.returns-in_err-begin_cost-in-Cost-clause-err
returns-in_err-begin_cost-in-Cost-clause-err c = λ before keeps.
    let n = c.args.self.now.line in
    let held = c.args.self.now.held in
    let k = c.in_err-begin_cost-in-Cost.field-0.0 in
    let is = rw c.as_slice.ensures at c.in-Cost.ensures in
    let same = whole_cost n held c.requires is.0 is.1 in
    let p =
    err_from_is_err_and c.from_residual-in_err-begin_cost-in-Cost.result
    c.from_residual-in_err-begin_cost-in-Cost.ensures.1 in
    rw (p.1, p.2)
    (reported_word (λ k. first_at n (cost_tests before) ≡ Some (Fault n k))
    (λ k. line_stop before n true (solid_line n true held) ≡ Some (Fault n k)) k (λ stop. rw (same, stop) refl)
    (c.in_err-begin_cost-in-Cost.ensures.err before n keeps))

pub returns-in-Other-clause-ok : goal.returns-in-Other-clause-ok
returns-in-Other-clause-ok c = λ before keeps.
    let is = rw c.as_slice.ensures at c.in-Other.ensures in
    IfOk-weaker c.skip.result
    _ _ (λ _ h. (whole_other c.args.self.now.line c.args.self.now.held c.requires is.0 is.1, h))
    (c.skip.ensures.ok before keeps)

pub returns-in-Other-clause-err : goal.returns-in-Other-clause-err
returns-in-Other-clause-err c = λ before keeps.
    let n = c.args.self.now.line in
    let held = c.args.self.now.held in
    let is = rw c.as_slice.ensures at c.in-Other.ensures in
    let same = whole_other n held c.requires is.0 is.1 in
    IfErr-weaker c.skip.result
    _ _ (λ k h. reported_word (λ k. first_at n (other_tests before) ≡ Some (Fault n k))
    (λ k. line_stop before n true (solid_line n true held) ≡ Some (Fault n k)) k (λ stop. rw (same, stop) refl) h)
    (c.skip.ensures.err before n keeps)

pub returns-in_ok-begin_route-in-Route-clause-err : goal.returns-in_ok-begin_route-in-Route-clause-err
returns-in_ok-begin_route-in-Route-clause-err c = λ before keeps.
    let n = c.args.self.now.line in
    let same = whole_route n c.args.self.now.held c.requires (rw c.as_slice.ensures at c.in-Route.ensures) in
    let may = c.in_ok-begin_route-in-Route.ensures.ok before keeps in
    rw (same, may.may n) refl

pub returns-in_ok-begin_cost-in-Cost-clause-err : goal.returns-in_ok-begin_cost-in-Cost-clause-err
returns-in_ok-begin_cost-in-Cost-clause-err c = λ before keeps.
    let is = rw c.as_slice.ensures at c.in-Cost.ensures in
    rw (
      whole_cost c.args.self.now.line c.args.self.now.held c.requires is.0 is.1,
      c.in_ok-begin_cost-in-Cost.ensures.ok before keeps,
    ) refl
