use Rattle.std.proofs.Common.{refl}
use Rattle.tk_words.proofs.laws.buffer_size_is_this_number.Goals as goal

pub returns : goal.returns
returns c = refl
