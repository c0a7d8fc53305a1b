use Rattle.std.proofs.Common.{refl}
use Rattle.tk_tests.proofs.OnLiterals.{on_literals}
use Rattle.tk_tests.proofs.texts.examples.solutions.Goals as goal

pub returns : goal.returns
unfolding on_literals
returns c = record { accepted = refl; refused = refl; begun = refl; within = refl; heads = refl; customers = refl }
