use Rattle.std.proofs.Common.{◌≡◌, drop}
use Rattle.tk_words.specs.Words.{spells}
use Rattle.tk_words.proofs.byte_buffer.spelled.Given as goal

abbrev pub invariant-loop-i : goal.invariant-loop-i
invariant-loop-i l = spells (drop l.i l.bytes) (drop l.i l.text) ≡ spells l.bytes l.text
