use Rattle.std.proofs.Common.{refl}
use Rattle.tk_tests.proofs.OnLiterals.{on_literals}
use Rattle.tk_tests.proofs.texts.examples.weights.Goals as goal

pub returns : goal.returns
unfolding on_literals
returns c = record { orders = refl; lists = refl }
