use Rattle.std.proofs.Common.{refl}
use Rattle.tk_tests.proofs.OnLiterals.{on_literals}
use Rattle.tk_tests.proofs.texts.examples.lengths.Goals as goal

pub returns : goal.returns
unfolding on_literals
returns c = record { lengths = refl; at_limits = refl }
