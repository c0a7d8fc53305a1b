use Rattle.std.proofs.lemmas.Int.{to_z-of_z}
use Rattle.std.proofs.Common.{ap, subst, sym, ◌∙◌, ◌≡◌, ◌≢◌, ◌&&◌, ℕ, ltb, false, w64, to_z, of_z}
use Rattle.std.proofs.Common.{Some, None, Ok, Err, Result, IfOk}
use Rattle.std.proofs.lemmas.Bool.{ltb-true, and_parts}
use Rattle.std.proofs.lemmas.Result.{IfOk-weaker, IfErr-weaker}
use Rattle.tk_problem.specs.declared.limits.TheConstants.{DISTANCE_LIMIT}
use Rattle.tk_words.specs.declared.fault.TextKind.{TextKind}
use Rattle.tk_words.specs.Entry.{in_range}
use Rattle.tk_lines.specs.Pieces.{first_at}
use Rattle.tk_problem.specs.WeightOrder.{weight_of, entries}
use Rattle.tk_problem_text.specs.Sections.WeightSection.{is_full, weights_in, weight_tests}
use Rattle.tk_problem_text.proofs.SectionTokens.WeightTokens.{if_some, place_here, weight_once, weight_same}
use Rattle.tk_problem_text.proofs.SectionTokens.WeightTokens.{weight_beyond, reported_again}
use Rattle.tk_problem_text.proofs.sections.explicit_weights.ExplicitWeights.weight.Goals as goal

pub returns-in_default-clause-err : goal.returns-in_default-clause-err
returns-in_default-clause-err c = λ n f toks t has is.
    let place = c.place-place.result in
    let apart : place.row ≢ place.column = if_some (λ p. p.row ≢ p.column) c.place-place.ensures c.requires.pair in
    let here = place_here n f c.args.self.now toks has place c.place-place.ensures in
    let beyond : in_range 0 DISTANCE_LIMIT (Some (to_z w64 (of_z w64 c.args.number))) ≡ false =
    c.limited.ensures.none c.in_default.is in
    weight_beyond n f toks t place here apart c.args.number is
    (rw (to_z-of_z w64 c.args.number c.ranges.number) at beyond)

-- a weight that was taken is both of these
both_weights : (r : Result ℕ TextKind) (x y : ℕ) → IfOk r (λ w. w ≡ x) → IfOk r (λ w. w ≡ y) → IfOk r (λ _. x ≡ y)
both_weights (Ok w) x y first second = sym first ∙ second
both_weights (Err k) x y first second = tt

pub returns-then-repeats-clause-ok : goal.returns-then-repeats-clause-ok
returns-then-repeats-clause-ok c = λ n f toks t has is.
    let place = c.place-place.result in
    let weight = c.in-Some.weight in
    let kept = weight_of place.row place.column (entries f n (weights_in toks)) in
    let apart : place.row ≢ place.column = if_some (λ p. p.row ≢ p.column) c.place-place.ensures c.requires.pair in
    let passed = to_z-of_z w64 c.args.number c.ranges.number in
    let is_weight = is ∙ ap Some (sym passed ∙ c.in-Some.ensures.some.0) in
    let here = place_here n f c.args.self.now toks has place c.place-place.ensures in
    IfOk-weaker c.again.result (λ _. weight ≡ kept) (λ _. first_at t.line (weight_tests n f toks t) ≡ None)
    (λ _. weight_same n f toks t place here apart weight is_weight c.in-Some.ensures.some.2)
    (both_weights c.again.result weight kept c.again.ensures.same (c.again.ensures.ok n f toks has))

pub returns-then-repeats-clause-err : goal.returns-then-repeats-clause-err
returns-then-repeats-clause-err c = λ n f toks t has is.
    let is_weight = sym (to_z-of_z w64 c.args.number c.ranges.number) ∙ c.in-Some.ensures.some.0 in
    let small = c.in-Some.ensures.some.2 in
    let place = c.place-place.result in
    let again = sym c.repeats.ensures ∙ c.if-repeats.true in
    let below = ltb-true place.column place.row (and_parts _ _ again).1 in
    IfErr-weaker c.again.result
    _ _ (reported_again n f c.args.self.now toks has t place c.in-Some.weight c.place-place.ensures below
    (is ∙ ap Some is_weight) small again) (c.again.ensures.err n f toks has)

pub returns-clause-ok : goal.returns-clause-ok
returns-clause-ok c = λ n f toks t has is.
    let place = c.place-place.result in
    let apart : place.row ≢ place.column = if_some (λ p. p.row ≢ p.column) c.place-place.ensures c.requires.pair in
    let passed = to_z-of_z w64 c.args.number c.ranges.number in
    let is_weight = is ∙ ap Some (sym passed ∙ c.in-Some.ensures.some.0) in
    let here = place_here n f c.args.self.now toks has place c.place-place.ensures in
    let once = subst (λ f. (is_full f && ltb place.column place.row) ≡ false) has.format
    (sym c.repeats.ensures ∙ c.if-repeats.false) in
    weight_once n f toks t place here apart c.in-Some.weight is_weight c.in-Some.ensures.some.2 once
