use Rattle.std.proofs.Common.{refl}
use Rattle.tk_words.proofs.sources.source.FromRead.new.Goals as goal

pub returns-clause-fresh : goal.returns-clause-fresh
returns-clause-fresh g c = refl
