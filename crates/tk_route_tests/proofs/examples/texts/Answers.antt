use Rattle.std.proofs.Common.{refl}
use Rattle.tk_route_tests.proofs.OnLiterals.{on_literals}
use Rattle.tk_route_tests.proofs.examples.texts.Goals as goal

pub returns : goal.returns
unfolding on_literals
returns c = record { keys = refl; accepted = refl; values = refl; orders = refl; prefixes = refl }
