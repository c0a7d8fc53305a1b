use Rattle.std.proofs.Common.{refl}
use Rattle.tk_route_tests.proofs.OnLiterals.{on_literals}
use Rattle.tk_route_tests.proofs.examples.ends.Goals as goal

pub returns : goal.returns
unfolding on_literals
returns c = record { lengths = refl; begun = refl; within = refl }
