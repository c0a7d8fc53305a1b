use Rattle.std.proofs.Common.{refl}
use Rattle.tk_writers.proofs.output.sink.ToWrite.new.Goals as goal

pub returns-clause-fresh : goal.returns-clause-fresh
returns-clause-fresh g c = refl
