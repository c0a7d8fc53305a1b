use Rattle.std.proofs.Common.{refl}
use Rattle.tk_words.proofs.keyword.Keyword.word.Goals as goal

pub returns-in-Distance : goal.returns-in-Distance
returns-in-Distance c = rw c.in-Distance.is refl
