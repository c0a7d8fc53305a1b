use Rattle.std.proofs.Common.{Some, ap, sym, ◌∙◌, arith}
use Rattle.tk_words.proofs.NumberLaws.Digits.{negated}
use Rattle.tk_words.proofs.NumberLaws.Integers.{integer-minus, integer-plus}
use Rattle.tk_words.proofs.numbers.integers.integer.Goals as goal

pub returns-in_err-natural-in-45 : goal.returns-in_err-natural-in-45
returns-in_err-natural-in-45 c =
    rw c.from_residual.ensures
    (sym (integer-minus c.args.bytes.now _ (omega arith) (omega arith) c.in_err-natural-in-45.ensures.value))

pub returns-in_ok-natural-in-45 : goal.returns-in_ok-natural-in-45
returns-in_ok-natural-in-45 c =
    let z = c.in_ok-natural-in-45.field-0 in
    let spelled = c.in_ok-natural-in-45.ensures in
    ap Some (negated z (omega (arith, spelled.bound)))
    ∙ sym (integer-minus c.args.bytes.now (Some z) (omega arith) (omega arith) spelled.value)

pub returns-in-43 : goal.returns-in-43
returns-in-43 c = c.natural-in-43.ensures.value ∙ sym (integer-plus c.args.bytes.now (omega arith) (omega arith))
