use Rattle.std.proofs.Common.{◌≡◌, ℕ, ◌+◌, ◌-◌, ◌*◌, ◌^◌, ◌<◌, List, ◌++◌, length, take, Some, sym, arith}
use Rattle.std.proofs.lemmas.Bool.Decides.{nat_tests}
use Rattle.tk_words.specs.Decimal.{billionths, number_of}
use Rattle.tk_words.proofs.NumberLaws.Digits.{All-digits, All-fraction_digits, billionths_is, limited-low, limited-high}
use Rattle.tk_words.proofs.numbers.decimals.billionths.Goals as goal
use Rattle.tk_words.proofs.numbers.decimals.billionths.Goals.{After-saturating_sub-count}

pub first_digits-requires-clause-whole : goal.first_digits-requires-clause-whole
first_digits-requires-clause-whole c = All-digits c.args.bytes.now _ c.split_digits.ensures.digits

pub first_digits-requires-clause-fraction : goal.first_digits-requires-clause-fraction
first_digits-requires-clause-fraction c =
    All-fraction_digits c.split_digits.result.1.now _ c.split_fraction.ensures.digits

-- the number, before its limit
spelled : (c : After-saturating_sub-count) →
    let digits : List ℕ = c.split_digits.result.0.now ++ c.split_fraction.result.0.now in
    let count : ℕ = c.saturating_sub-count.result in
    billionths c.args.bytes.now ≡ Some (number_of (take count digits) * 10 ^ (count - length digits))
spelled c =
    let whole = c.split_digits.result.0.now in
    let digits = c.split_fraction.result.0.now in
    let some : 0 < length whole + length digits = grind (arith, nat_tests) in
    billionths_is c.args.bytes.now whole c.split_digits.result.1.now digits c.split_fraction.result.1.now
    c.in-Some.up c.in-Some.down c.saturating_sub-count.result
    c.split_digits.ensures.digits c.split_digits.ensures.rest c.split_fraction.ensures.digits
    c.split_fraction.ensures.rest some c.in-Some.ensures.value c.saturating_sub-count.ensures

pub returns-in-Some-first_digits-clause-value : goal.returns-in-Some-first_digits-clause-value
returns-in-Some-first_digits-clause-value c =
    let value = spelled (goal.at.returns-in-Some-first_digits-clause-value c).After-saturating_sub-count in
    sym (limited-low _ _ _ value c.in-Some-first_digits.ensures.0 c.in-Some-first_digits.ensures.1)

pub returns-in-None-clause-value : goal.returns-in-None-clause-value
returns-in-None-clause-value c =
    let value = spelled (goal.at.returns-in-None-clause-value c).After-saturating_sub-count in
    sym (limited-high _ _ value c.in-None.ensures)
