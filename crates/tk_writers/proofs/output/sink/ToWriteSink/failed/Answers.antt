use Rattle.std.proofs.Common.{refl}
use Rattle.tk_writers.proofs.output.sink.ToWriteSink.failed.Goals as goal

pub returns : goal.returns
returns g c = refl
