use Rattle.std.proofs.Common.{refl}
use Rattle.tk_tests.proofs.OnLiterals.{on_literals}
use Rattle.tk_tests.proofs.texts.examples.problem_faults.Goals as goal

pub returns : goal.returns
unfolding on_literals
returns c = record { headers = refl; places = refl; weights = refl; routing = refl; order = refl }
