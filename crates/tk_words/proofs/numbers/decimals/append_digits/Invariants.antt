use Rattle.std.proofs.Common.{◌≡◌, ◌≤◌, take}
use Rattle.tk_words.specs.declared.numbers.decimals.TheConstants.{LIMIT}
use Rattle.tk_words.specs.Decimal.{number_behind}
use Rattle.tk_words.proofs.numbers.decimals.append_digits.Given as goal

abbrev pub invariant-loop-digit : goal.invariant-loop-digit
invariant-loop-digit l = (l.number ≤ LIMIT) × (l.number ≡ number_behind l.fn.number (take l.digit-index l.digits))
