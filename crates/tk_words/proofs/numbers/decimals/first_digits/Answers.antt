use Rattle.std.proofs.lemmas.Grind.{common_steps}
use Rattle.std.proofs.Common.{◌≤◌, min, ◌-◌, ◌*◌, ◌^◌, take, length, refl, ap, sym, subst, ◌∙◌, arith}
use Rattle.std.specs.Option.{SomeIff}
use Rattle.tk_words.specs.declared.numbers.decimals.TheConstants.{LIMIT}
use Rattle.tk_words.specs.Decimal.{number_of, number_behind}
use Rattle.tk_words.proofs.NumberLaws.Digits.{first_of_two, moved-ge, number_behind-ge}
use Rattle.tk_words.proofs.numbers.decimals.first_digits.Goals as goal

pub returns-in_err-number : goal.returns-in_err-number
returns-in_err-number c =
    let whole = c.args.whole.now in
    let fraction = c.args.fraction.now in
    let a = c.min-in_whole.result in
    let b = min (c.args.count - a) (length fraction) in
    let number = number_of (take a whole) in
    let both = number_behind number (take b fraction) in
    rw c.from_residual.ensures (λ low. c.in_err-number.ensures (
    omega (
      arith,
      low,
      first_of_two whole fraction c.args.count a b c.min-in_whole.ensures refl,
      number_behind-ge number (take b fraction),
      moved-ge both (c.args.count - a - b),
    )))

pub returns-in_err-number-2 : goal.returns-in_err-number-2
returns-in_err-number-2 c =
    let whole = c.args.whole.now in
    let fraction = c.args.fraction.now in
    let a = c.min-in_whole.result in
    let b = c.min-in_fraction.result in
    let same = ap (λ n. number_behind n (take b fraction)) c.in_ok-number.ensures.1 in
    rw c.from_residual-in_err-number-2.ensures (λ low. c.in_err-number-2.ensures (
    omega (
      arith,
      low,
      same,
      first_of_two whole fraction c.args.count a b c.min-in_whole.ensures c.min-in_fraction.ensures,
      moved-ge (number_behind (number_of (take a whole)) (take b fraction)) (c.args.count - a - b),
    )))

pub returns : goal.returns
returns c =
    let whole = c.args.whole.now in
    let fraction = c.args.fraction.now in
    let a = c.min-in_whole.result in
    let b = c.min-in_fraction.result in
    let same = c.in_ok-number-2.ensures.1 ∙ ap (λ n. number_behind n (take b fraction)) c.in_ok-number.ensures.1 in
    let total = ap (λ n. n * 10 ^ (c.args.count - a - b)) same
    ∙ sym (first_of_two whole fraction c.args.count a b c.min-in_whole.ensures c.min-in_fraction.ensures) in
    subst (λ n. SomeIff c.append_zeros.result (n ≤ LIMIT) n) total c.append_zeros.ensures

pub append_digits-requires-clause-digits : goal.append_digits-requires-clause-digits
append_digits-requires-clause-digits c = grind (arith, common_steps)

pub append_digits-requires-2-clause-digits : goal.append_digits-requires-2-clause-digits
append_digits-requires-2-clause-digits c = grind (arith, common_steps)
