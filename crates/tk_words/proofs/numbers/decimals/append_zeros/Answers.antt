use Rattle.std.proofs.Common.{arith, ◌∙◌}
use Rattle.tk_words.proofs.NumberLaws.Digits.{times_power, many_zeros}
use Rattle.tk_words.proofs.numbers.decimals.append_zeros.Goals as goal

pub returns-in_err-appended : goal.returns-in_err-appended
returns-in_err-appended c =
    let e = times_power c.args.number c.args.zeros (omega arith) in
    rw c.from_residual.ensures (λ low. c.in_err-appended.ensures (omega (arith, e, low)))

pub returns-then-zeros-ge19 : goal.returns-then-zeros-ge19
returns-then-zeros-ge19 c = λ low. many_zeros c.args.number c.args.zeros (omega arith) (omega arith) low

pub returns : goal.returns
returns c =
    let e = times_power c.args.number c.args.zeros (omega arith) in
    (omega (arith, e, c.in_ok-appended.ensures), c.in_ok-appended.ensures.1 ∙ e)
