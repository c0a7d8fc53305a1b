use Rattle.std.proofs.Common.{refl}
use Rattle.tk_words.proofs.sources.source.FromReadSource.failed.Goals as goal

pub returns : goal.returns
returns g c = refl
