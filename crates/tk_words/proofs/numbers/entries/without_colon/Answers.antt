use Rattle.std.proofs.Common.{sym, ◌∙◌}
use Rattle.tk_words.proofs.NoWord.{without_colon-last, without_colon-other, without_colon-empty}
use Rattle.tk_words.proofs.numbers.entries.without_colon.Goals as goal
use Rattle.tk_words.proofs.numbers.entries.without_colon.Goals.{else-not-is_empty-via-then-not-is_empty+else-bytes-eq58}
use Rattle.tk_words.proofs.numbers.entries.without_colon.Goals.{else-not-is_empty-via-else-not-is_empty}

pub returns-then-bytes-eq58 : goal.returns-then-bytes-eq58
returns-then-bytes-eq58 c = sym (without_colon-last c.args.bytes.now c.if-bytes-eq58.true)

pub returns : goal.returns
returns c = elim c.else-not-is_empty.branch [
  | else-not-is_empty-via-then-not-is_empty+else-bytes-eq58 w ↦ sym
      (without_colon-other c.args.bytes.now w.if-bytes-eq58.false)
  | else-not-is_empty-via-else-not-is_empty w ↦ sym
      (without_colon-empty c.args.bytes.now (sym c.is_empty.ensures ∙ w.if-not-is_empty.false))
]
