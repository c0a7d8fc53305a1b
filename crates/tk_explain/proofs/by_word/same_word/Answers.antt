use Rattle.std.proofs.Common.{sym}
use Rattle.tk_explain.proofs.Lengths.{same_word-differ}
use Rattle.tk_explain.proofs.by_word.same_word.Goals as goal

pub returns-then-bytes-text : goal.returns-then-bytes-text
returns-then-bytes-text c = sym (same_word-differ c.args.bytes.now c.args.text.now c.if-bytes-text.true)
