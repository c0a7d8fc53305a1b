use Rattle.std.proofs.Common.{sym, arith}
use Rattle.tk_words.proofs.NumberLaws.Exponents.{powers-minus, powers-plus}
use Rattle.tk_words.proofs.numbers.decimals.powers.Goals as goal

pub returns-in_err-small-in-45-clause-value : goal.returns-in_err-small-in-45-clause-value
returns-in_err-small-in-45-clause-value c =
    rw c.from_residual.ensures
    (sym (powers-minus c.args.bytes.now _ (omega arith) (omega arith) c.in_err-small-in-45.ensures.value))

pub returns-in_ok-small-in-45-clause-value : goal.returns-in_ok-small-in-45-clause-value
returns-in_ok-small-in-45-clause-value c =
    sym (powers-minus c.args.bytes.now _ (omega arith) (omega arith) c.in_ok-small-in-45.ensures.value)

pub returns-in_err-small-in-43-clause-value : goal.returns-in_err-small-in-43-clause-value
returns-in_err-small-in-43-clause-value c =
    rw c.from_residual-in_err-small-in-43.ensures
    (sym (powers-plus c.args.bytes.now _ (omega arith) (omega arith) c.in_err-small-in-43.ensures.value))

pub returns-in_ok-small-in-43-clause-value : goal.returns-in_ok-small-in-43-clause-value
returns-in_ok-small-in-43-clause-value c =
    sym (powers-plus c.args.bytes.now _ (omega arith) (omega arith) c.in_ok-small-in-43.ensures.value)
