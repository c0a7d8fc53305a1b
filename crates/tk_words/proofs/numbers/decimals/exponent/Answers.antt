use Rattle.std.proofs.Common.{◌∙◌, sym, arith}
use Rattle.std.proofs.lemmas.Bool.Decides.{nat_tests}
use Rattle.tk_words.proofs.NumberLaws.Exponents.{exponent-none, exponent-some, exponent-other}
use Rattle.tk_words.proofs.numbers.decimals.exponent.Goals as goal

pub returns-in-empty-clause-value : goal.returns-in-empty-clause-value
returns-in-empty-clause-value c = sym (exponent-none c.args.bytes.now c.in-empty.len_below)

pub returns-in-101-clause-value : goal.returns-in-101-clause-value
returns-in-101-clause-value c =
    c.powers.ensures.value ∙ sym (exponent-some c.args.bytes.now c.in-101.len_at_least (grind (arith, nat_tests)))

pub returns-in_default-clause-value : goal.returns-in_default-clause-value
returns-in_default-clause-value c =
    sym (exponent-other c.args.bytes.now c.in_default.len_at_least (grind (arith, nat_tests)))
