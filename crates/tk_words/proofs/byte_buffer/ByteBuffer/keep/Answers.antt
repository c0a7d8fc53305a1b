use Rattle.std.proofs.lemmas.Grind.{common_steps}
use Rattle.std.proofs.Common.{arith}
use Rattle.tk_words.proofs.byte_buffer.ByteBuffer.keep.Goals as goal

pub returns-then-not-is_full : goal.returns-then-not-is_full
returns-then-not-is_full g c = grind (arith, common_steps)

pub returns-else-not-is_full : goal.returns-else-not-is_full
returns-else-not-is_full g c = grind (arith, common_steps)
