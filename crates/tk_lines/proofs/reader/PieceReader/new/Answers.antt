use Rattle.std.proofs.Common.{refl}
use Rattle.tk_lines.proofs.Endings.ReaderEnds.{fed_waits, from_first}
use Rattle.tk_lines.proofs.reader.PieceReader.new.Goals as goal

pub returns : goal.returns
returns g c =
    fed_waits (record
    { line = refl; at = from_first g.F.Handler.promise.format g.F.Handler.promise.holds c.args.form c.requires })
