use Rattle.std.proofs.Common.{refl}
use Rattle.tk_tests.proofs.OnLiterals.{on_literals}
use Rattle.tk_tests.proofs.texts.examples.written_texts.Goals as goal

pub returns : goal.returns
unfolding on_literals
returns c = record { lines = refl; texts = refl; matrices = refl; read_back = refl }
