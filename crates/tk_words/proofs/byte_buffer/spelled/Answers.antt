use Rattle.std.proofs.lemmas.Grind.{common_steps}
use Rattle.std.proofs.Common.{sym, arith}
use Rattle.tk_words.proofs.Spelling.{differ_in_length}
use Rattle.tk_words.proofs.byte_buffer.spelled.Goals as goal

pub returns-then-bytes-text : goal.returns-then-bytes-text
returns-then-bytes-text c = sym (differ_in_length c.args.bytes.now c.args.text.now c.if-bytes-text.true)

pub returns-then-to_ascii_uppercase-text : goal.returns-then-to_ascii_uppercase-text
returns-then-to_ascii_uppercase-text c = grind (arith, common_steps)

pub loop-i-preserved : goal.loop-i-preserved
loop-i-preserved c = grind (arith, common_steps)

pub returns : goal.returns
returns c = grind (arith, common_steps)
