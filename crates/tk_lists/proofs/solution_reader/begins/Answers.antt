use Rattle.std.proofs.Common.{sym, ◌∙◌, take, length, arith}
use Rattle.std.proofs.lemmas.Bool.{lt-leb}
use Rattle.std.proofs.lemmas.List.{length-take}
use Rattle.tk_words.proofs.Spelling.{differ_in_length}
use Rattle.tk_lists.proofs.solution_reader.begins.Goals as goal

pub returns-else-bytes-text : goal.returns-else-bytes-text
returns-else-bytes-text c =
    lt-leb _ _ (omega (arith, c.if-bytes-text.false))
    ∙ sym
    (differ_in_length c.args.bytes.now (take (length c.args.bytes.now) c.args.text.now)
    (λ e. omega (arith, e, length-take (length c.args.bytes.now) c.args.text.now, c.if-bytes-text.false)))
