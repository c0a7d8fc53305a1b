use Rattle.std.proofs.Common.{rules}
use Rattle.tk_params.proofs.reader.ParamReaderTextReader.limit.Goals as goal

pub returns : goal.returns
returns = search rules
