use Rattle.std.proofs.Common.{refl}
use Rattle.tk_params.proofs.ReaderBytes.{fed_new, fed_waits}
use Rattle.tk_params.proofs.reader.ParamReader.new.Goals as goal

pub returns : goal.returns
returns c = fed_waits _ _ (fed_new _ refl refl c.new-2.ensures c.new.ensures.items)
