use Rattle.std.proofs.Common.{rules}
use Rattle.tk_writers.specs.MatrixText.{matrix_text}
use Rattle.tk_writers.proofs.Lengths.MatrixLength.{length_matrix_text}
use Rattle.tk_writers.proofs.ReadBack.{reads_back}
use Rattle.tk_writers.proofs.Pieces.Putting.{Writes-end, broken_at_err}
use Rattle.tk_writers.proofs.matrix.write_matrix.Goals as goal

pub returns-clause-text : goal.returns-clause-text
returns-clause-text g c = λ table gives.
    Writes-end g.W.Sink c.args.w.now
    _ _ _ _ _ (matrix_text c.args.name.now c.args.n table c.args.f)
    c.new-pen.ensures.empty (c.put_matrix.ensures.puts table gives) c.end.ensures (search rules)

pub returns-clause-failed : goal.returns-clause-failed
returns-clause-failed g c = λ short.
    let table = c.requires.table.0 in
    broken_at_err g.W.Sink c.args.w.now _ _ (matrix_text c.args.name.now c.args.n table c.args.f)
    (length_matrix_text c.args.name.now c.args.n table c.args.f short c.requires.few)
    (Writes-end g.W.Sink c.args.w.now
    _ _ _ _ _ (matrix_text c.args.name.now c.args.n table c.args.f)
    c.new-pen.ensures.empty (c.put_matrix.ensures.puts table c.requires.table.1) c.end.ensures (search rules))

pub returns-clause-read_back : goal.returns-clause-read_back
returns-clause-read_back g c = λ table gives is_name is_table low. reads_back c.args.name.now c.args.n table c.args.f
    is_name is_table low c.requires.few
