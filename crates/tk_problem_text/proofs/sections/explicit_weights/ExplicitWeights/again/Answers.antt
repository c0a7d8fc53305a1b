use Rattle.std.proofs.Common.{refl, ◌≡◌, suc, sym, ◌∙◌, arith}
use Rattle.tk_problem.specs.WeightOrder.{weight_of, entries}
use Rattle.tk_problem_text.specs.Sections.WeightSection.{weights_in}
use Rattle.tk_problem_text.proofs.SectionTokens.WeightTokens.{next_of, if_some}
use Rattle.tk_problem_text.proofs.sections.explicit_weights.ExplicitWeights.again.Goals as goal

pub returns-then-weight-clause-ok : goal.returns-then-weight-clause-ok
returns-then-weight-clause-ok c = λ n f toks has.
    let kept = if_some (λ p. c.weight.result ≡ weight_of p.row p.column (entries f n (weights_in toks))) c.requires.next
    (c.weight.ensures f n (weights_in toks) has.so_far) in
    cc

pub returns-clause-err : goal.returns-clause-err
returns-clause-err c = λ n f toks has.
    let place = c.args.place in
    let next = next_of n f c.args.self.now toks has place c.requires.next in
    let kept = if_some (λ p. c.weight.result ≡ weight_of p.row p.column (entries f n (weights_in toks))) c.requires.next
    (c.weight.ensures f n (weights_in toks) has.so_far) in
    let column : c.saturating_add.result ≡ suc place.column =
    omega (arith, c.saturating_add.ensures, next.column, has.few) in
    let row : c.saturating_add-2.result ≡ suc place.row =
    omega (arith, c.saturating_add-2.ensures, next.row, has.few) in
    (rw (column, row) refl, λ e. c.if-weight.false (kept ∙ sym e))
