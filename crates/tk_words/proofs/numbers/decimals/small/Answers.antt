use Rattle.std.proofs.Common.{sym}
use Rattle.tk_words.proofs.NumberLaws.Exponents.{small-none, small-some, stored}
use Rattle.tk_words.proofs.numbers.decimals.small.Goals as goal

pub returns-in_err-natural-clause-value : goal.returns-in_err-natural-clause-value
returns-in_err-natural-clause-value c =
    rw c.from_residual.ensures (sym (small-none c.args.bytes.now c.in_err-natural.ensures.value))

pub returns-clause-value : goal.returns-clause-value
returns-clause-value c =
    let spelled = c.in_ok-natural.ensures in
    sym (small-some c.args.bytes.now c.in_ok-natural.field-0 c.if-bytes-gt3.false spelled.value spelled.bound)

pub returns-clause-bound : goal.returns-clause-bound
returns-clause-bound c =
    rw (stored c.in_ok-natural.field-0 c.in_ok-natural.ensures.bound) c.in_ok-natural.ensures.bound
