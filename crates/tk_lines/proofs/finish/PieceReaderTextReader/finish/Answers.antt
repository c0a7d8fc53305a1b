use Rattle.std.proofs.lemmas.Result.{err_from_is_err_and}
use Rattle.tk_lines.specs.Reader.Places.{at_end}
use Rattle.tk_lines.proofs.OneByteAfter.{narrow}
use Rattle.tk_lines.proofs.finish.PieceReaderTextReader.finish.Goals as goal

pub end_bytes-requires : goal.end_bytes-requires
end_bytes-requires g c = (c.requires.0, narrow at_end c.requires.1.fed)

pub returns-in_err-end_bytes : goal.returns-in_err-end_bytes
returns-in_err-end_bytes g c = λ before waits.
    let p = err_from_is_err_and c.from_residual.result c.from_residual.ensures.1 in
    rw (p.1, p.2) (c.in_err-end_bytes.ensures before (narrow at_end waits.fed))

pub returns : goal.returns
returns g c = λ before waits.
    rw c.value.ensures (c.in_ok-end_bytes.ensures before (narrow at_end waits.fed)).0

pub value-requires : goal.value-requires
value-requires g c = (c.in_ok-end_bytes.ensures c.requires.0 (narrow at_end c.requires.1.fed)).1
