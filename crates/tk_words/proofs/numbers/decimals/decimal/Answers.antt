use Rattle.std.proofs.lemmas.Grind.{common_steps}
use Rattle.std.proofs.Common.{Ok, Err, sym, ap, ◌∙◌, arith}
use Rattle.std.proofs.lemmas.Result.{err_from_is_err_and}
use Rattle.tk_words.proofs.NumberLaws.Digits.{negated, decimal-minus}
use Rattle.tk_words.proofs.numbers.decimals.decimal.Goals as goal

pub returns-in_err-billionths-in-45-clause-value : goal.returns-in_err-billionths-in-45-clause-value
returns-in_err-billionths-in-45-clause-value c =
    let bytes = c.args.bytes.now in
    let p = err_from_is_err_and c.from_residual.result c.from_residual.ensures.1 in
    rw (p.1, p.2)
    (sym (decimal-minus bytes (Err _) (omega arith) (omega arith) c.in_err-billionths-in-45.ensures.value))

pub returns-in_ok-billionths-in-45-clause-value : goal.returns-in_ok-billionths-in-45-clause-value
returns-in_ok-billionths-in-45-clause-value c =
    let bytes = c.args.bytes.now in
    let z = c.in_ok-billionths-in-45.field-0 in
    ap Ok (negated z c.in_ok-billionths-in-45.ensures.bound)
    ∙ sym (decimal-minus bytes (Ok z) (omega arith) (omega arith) c.in_ok-billionths-in-45.ensures.value)

pub returns-in-43-clause-value : goal.returns-in-43-clause-value
returns-in-43-clause-value c = grind (arith, common_steps)
