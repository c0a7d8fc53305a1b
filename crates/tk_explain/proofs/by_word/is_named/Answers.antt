use Rattle.std.proofs.Common.{rules}
use Rattle.tk_explain.proofs.by_word.is_named.Goals as goal

pub returns-else-same_word : goal.returns-else-same_word
returns-else-same_word = search rules
