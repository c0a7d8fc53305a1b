use Rattle.std.proofs.lemmas.Grind.{common_steps}
use Rattle.std.proofs.Common.{arith}
use Rattle.tk_words.proofs.numbers.decimals.split_fraction.Goals as goal

pub returns-in-46-clause-digits : goal.returns-in-46-clause-digits
returns-in-46-clause-digits c = grind (arith, common_steps)

pub returns-in-46-clause-rest : goal.returns-in-46-clause-rest
returns-in-46-clause-rest c = grind (arith, common_steps)
