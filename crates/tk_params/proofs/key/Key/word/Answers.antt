use Rattle.std.proofs.Common.{rules}
use Rattle.tk_params.proofs.key.Key.word.Goals as goal

pub returns-in-PatchingC : goal.returns-in-PatchingC
returns-in-PatchingC = search rules
