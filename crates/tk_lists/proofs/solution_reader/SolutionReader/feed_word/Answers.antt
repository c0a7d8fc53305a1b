use Rattle.std.proofs.Common.{◌≡◌, ℕ, Bool, false, List, [], ◌∷◌, ◌++◌, Some, refl, sym, ap, ◌∙◌, append_assoc}
use Rattle.std.proofs.Common.{arith, lit<}
use Rattle.std.proofs.lemmas.List.{length-append}
use Rattle.std.proofs.lemmas.Result.{err_from_is_err_and}
use Rattle.tk_words.specs.Lex.{tokens_of, after_word}
use Rattle.tk_lines.specs.Pieces.{Fault, first_at}
use Rattle.tk_lists.specs.Solution.{Cost, Other, solid_line, may_be_word, route_head, route_line, route_tests}
use Rattle.tk_lists.specs.Solution.{cost_tests}
use Rattle.tk_lists.specs.Reader.SolutionReader.{LineStopsAt, line_from}
use Rattle.tk_lists.specs.declared.route_head.HeadPlace.TheVariants as heads
use Rattle.tk_lists.specs.declared.solution_reader.LinePlace.TheVariants as places
use Rattle.tk_lines.proofs.Pieces.ReportedFaults.{reported_word}
use Rattle.tk_lists.proofs.SolutionSteps.{went_same, ok_same, err_same}
use Rattle.tk_lists.proofs.SolutionWords.{front_short, word_goes_on, grown_other, ended_route, ended_cost, ended_other}
use Rattle.tk_lists.proofs.SolutionWords.{route_stops}
use Rattle.tk_lists.proofs.solution_reader.SolutionReader.feed_word.Goals as goal
use Rattle.tk_lists.proofs.solution_reader.SolutionReader.feed_word.Goals.{After-may_become_word}
use Rattle.tk_lists.proofs.solution_reader.SolutionReader.feed_word.Goals.{In-Route, In-Cost, In-Other}

-- ---- the line that a byte goes on, or ends the word of

may_be_so : (c : After-may_become_word) →
    may_be_word (c.args.self.now.held ++ c.args.byte ∷ []) ≡ c.may_become_word.result
may_be_so c = ap may_be_word (sym (c.as_slice.ensures ∙ c.push.ensures)) ∙ sym c.may_become_word.ensures

grown : (c : After-may_become_word) → c.may_become_word.result ≡ false → (bs : List ℕ) (w : Bool) →
    solid_line c.args.self.now.line w (c.args.self.now.held ++ c.args.byte ∷ bs) ≡ Other
grown c none =
    grown_other c.args.self.now.line c.args.self.now.held c.args.byte c.requires.0
    (sym c.word_byte.ensures ∙ c.if-word_byte.true) (may_be_so c ∙ none)

is_route : (c : In-Route) (bs : List ℕ) (w : Bool) →
    solid_line c.args.self.now.line w (c.args.self.now.held ++ c.args.byte ∷ bs)
    ≡ route_line c.args.self.now.line w (route_head (c.args.byte ∷ bs))
is_route c =
    ended_route c.args.self.now.line c.args.self.now.held c.args.byte c.requires.0
    (sym c.word_byte.ensures ∙ c.if-word_byte.false) (rw c.as_slice-2.ensures at c.in-Route.ensures)

is_cost : (c : In-Cost) (bs : List ℕ) (w : Bool) →
    solid_line c.args.self.now.line w (c.args.self.now.held ++ c.args.byte ∷ bs)
    ≡ Cost (tokens_of w c.args.self.now.line (after_word (c.args.byte ∷ bs)))
is_cost c =
    let is = rw c.as_slice-2.ensures at c.in-Cost.ensures in
    ended_cost c.args.self.now.line c.args.self.now.held c.args.byte c.requires.0
    (sym c.word_byte.ensures ∙ c.if-word_byte.false) is.0 is.1

is_other : (c : In-Other) (bs : List ℕ) (w : Bool) →
    solid_line c.args.self.now.line w (c.args.self.now.held ++ c.args.byte ∷ bs) ≡ Other
is_other c =
    let is = rw c.as_slice-2.ensures at c.in-Other.ensures in
    ended_other c.args.self.now.line c.args.self.now.held c.args.byte c.requires.0
    (sym c.word_byte.ensures ∙ c.if-word_byte.false) is.0 is.1

-- ---- the answers

pub push-requires : goal.push-requires
push-requires c = (lit< tt, front_short c.args.self.now.held c.requires.1)

pub returns-then-may_become_word-clause-ok : goal.returns-then-may_become_word-clause-ok
returns-then-may_become_word-clause-ok c = λ before k.
    let n = c.args.self.now.line in
    let b = c.args.byte in
    let held = c.args.self.now.held in
    let is = sym c.word_byte.ensures ∙ c.if-word_byte.true in
    let may = may_be_so (goal.at.returns-then-may_become_word-clause-ok c).After-may_become_word
    ∙ c.if-may_become_word.true in
    record {
      toks = [];
      stands = rw c.push.ensures (
        refl,
        k,
        (omega (arith, length-append held (b ∷ [])), (word_goes_on held b c.requires.0 is, may)),
      );
      same = rw c.push.ensures (λ bs w. ap (solid_line n w) (sym (append_assoc held (b ∷ []) bs)));
    }

pub returns-then-word_byte-clause-ok : goal.returns-then-word_byte-clause-ok
returns-then-word_byte-clause-ok c = λ before k.
    ok_same before c.args.self.now.line c.args.byte _ _
    (grown (goal.at.returns-then-word_byte-clause-ok c).After-may_become_word c.if-may_become_word.false) c.skip.result
    c.skip.new.self (c.skip.ensures.ok before k)

pub returns-then-word_byte-clause-err : goal.returns-then-word_byte-clause-err
returns-then-word_byte-clause-err c = λ before k.
    let n = c.args.self.now.line in
    err_same before n c.args.byte (λ bs w. Other) (line_from n c.args.self.now.held [] places.Word)
    (grown (goal.at.returns-then-word_byte-clause-err c).After-may_become_word c.if-may_become_word.false) c.skip.result
    (c.skip.ensures.err before k)

pub returns-in_err-begin_route-in-Route-clause-err : goal.returns-in_err-begin_route-in-Route-clause-err
returns-in_err-begin_route-in-Route-clause-err c = λ before keeps.
    let n = c.args.self.now.line in
    let b = c.args.byte in
    let same = is_route (goal.at.returns-in_err-begin_route-in-Route-clause-err c).In-Route in
    let k = c.in_err-begin_route-in-Route.field-0.0 in
    let p = err_from_is_err_and c.from_residual.result c.from_residual.ensures.1 in
    rw (p.1, p.2)
    (reported_word (λ k. first_at n (route_tests before) ≡ Some (Fault n k))
    (LineStopsAt before n b (line_from n c.args.self.now.held [] places.Word)) k
    (λ stop bs w. rw (same bs w) (route_stops before n w (Fault n k) (route_head (b ∷ bs)) stop))
    (c.in_err-begin_route-in-Route.ensures.err before n keeps))

pub returns-in_err-begin_cost-in-Cost-clause-err : goal.returns-in_err-begin_cost-in-Cost-clause-err
returns-in_err-begin_cost-in-Cost-clause-err c = λ before keeps.
    let n = c.args.self.now.line in
    let same = is_cost (goal.at.returns-in_err-begin_cost-in-Cost-clause-err c).In-Cost in
    let k = c.in_err-begin_cost-in-Cost.field-0.0 in
    let p =
    err_from_is_err_and c.from_residual-in_err-begin_cost-in-Cost.result
    c.from_residual-in_err-begin_cost-in-Cost.ensures.1 in
    rw (p.1, p.2)
    (reported_word (λ k. first_at n (cost_tests before) ≡ Some (Fault n k))
    (LineStopsAt before n c.args.byte (line_from n c.args.self.now.held [] places.Word)) k
    (λ stop bs w. rw (same bs w, stop) refl) (c.in_err-begin_cost-in-Cost.ensures.err before n keeps))

pub returns-in_ok-begin_route-in-Route-clause-ok : goal.returns-in_ok-begin_route-in-Route-clause-ok
returns-in_ok-begin_route-in-Route-clause-ok c = λ before k.
    ok_same before c.args.self.now.line c.args.byte _ _
    (is_route (goal.at.returns-in_ok-begin_route-in-Route-clause-ok c).In-Route) c.feed_head.result c.feed_head.new.self
    (c.feed_head.ensures.ok before k (c.in_ok-begin_route-in-Route.ensures.ok before k))

pub returns-in_ok-begin_route-in-Route-clause-err : goal.returns-in_ok-begin_route-in-Route-clause-err
returns-in_ok-begin_route-in-Route-clause-err c = λ before k.
    let n = c.args.self.now.line in
    err_same before n c.args.byte (line_from n [] [] (places.Head heads.Word))
    (line_from n c.args.self.now.held [] places.Word)
    (is_route (goal.at.returns-in_ok-begin_route-in-Route-clause-err c).In-Route) c.feed_head.result
    (c.feed_head.ensures.err before (c.in_ok-begin_route-in-Route.ensures.ok before k))

pub returns-in_ok-begin_cost-in-Cost-clause-ok : goal.returns-in_ok-begin_cost-in-Cost-clause-ok
returns-in_ok-begin_cost-in-Cost-clause-ok c = λ before k.
    went_same before c.args.self.now.line c.args.byte _ _
    (is_cost (goal.at.returns-in_ok-begin_cost-in-Cost-clause-ok c).In-Cost) c.feed_colon.new.self
    (c.feed_colon.ensures.went before k (c.in_ok-begin_cost-in-Cost.ensures.ok before k))

pub returns-in-Other-clause-ok : goal.returns-in-Other-clause-ok
returns-in-Other-clause-ok c = λ before k.
    ok_same before c.args.self.now.line c.args.byte _ _
    (is_other (goal.at.returns-in-Other-clause-ok c).In-Other) c.skip-in-Other.result c.skip-in-Other.new.self
    (c.skip-in-Other.ensures.ok before k)

pub returns-in-Other-clause-err : goal.returns-in-Other-clause-err
returns-in-Other-clause-err c = λ before k.
    let n = c.args.self.now.line in
    err_same before n c.args.byte (λ bs w. Other) (line_from n c.args.self.now.held [] places.Word)
    (is_other (goal.at.returns-in-Other-clause-err c).In-Other) c.skip-in-Other.result
    (c.skip-in-Other.ensures.err before k)
