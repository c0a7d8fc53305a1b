use Rattle.std.proofs.Common.{◌≡◌, ◌≤◌, Ok, ap, arith, sym, ◌∙◌}
use Rattle.tk_words.specs.Decimal.{decimal_of, limited}
use Rattle.tk_words.proofs.NumberLaws.Naturals.{billion-fold, natural-far, natural-near}
use Rattle.tk_words.proofs.lexeme.Lexeme.decimal.Goals as goal

pub returns-in-Some-clause-value : goal.returns-in-Some-clause-value
returns-in-Some-clause-value c =
    let known = rw c.in-Some.is at c.self.invariant in
    sym (
    ap (λ bs. limited (decimal_of bs)) (sym c.self.view_is)
    ∙ natural-far c.self.inside.bytes.now c.in-Some.number known.0
    (omega (arith, c.if-number-gt-COORDINATE_LIMIT.true))
    )

pub returns-in-Some-2-clause-value : goal.returns-in-Some-2-clause-value
returns-in-Some-2-clause-value c =
    let n = c.in-Some-2.number in
    let known = rw c.in-Some-2.is at c.self.invariant in
    let same : c.in-Some.number ≡ n = cc in
    let low : n ≤ 1000000000 = omega (arith, same, c.if-number-gt-COORDINATE_LIMIT.false) in
    ap Ok (billion-fold n low)
    ∙ sym (
    ap (λ bs. limited (decimal_of bs)) (sym c.self.view_is)
    ∙ natural-near c.self.inside.bytes.now n known.0 (omega arith)
    )
