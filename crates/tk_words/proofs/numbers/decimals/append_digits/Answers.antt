use Rattle.std.proofs.Common.{◌+◌, ◌-◌, ◌*◌, arith}
use Rattle.std.proofs.lemmas.List.Sums.{fold_more}
use Rattle.tk_words.proofs.NumberLaws.Digits.{number_behind-take}
use Rattle.tk_words.proofs.numbers.decimals.append_digits.Goals as goal

pub returns-then-number-gt-LIMIT : goal.returns-then-number-gt-LIMIT
returns-then-number-gt-LIMIT c = λ low.
    let n = c.args.number in
    let ds = c.args.digits.now in
    let i = c.loop-digit.digit-index in
    omega (
      arith,
      low,
      fold_more (λ m d. m * 10 + (d - 48)) n ds i 0 c.loop-digit-test.true,
      number_behind-take n (i + 1) ds,
    )
