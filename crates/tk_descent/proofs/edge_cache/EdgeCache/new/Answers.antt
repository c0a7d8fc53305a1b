use Rattle.std.proofs.lemmas.Grind.{elements}
use Rattle.std.proofs.Common.{arith}
use Rattle.tk_descent.proofs.edge_cache.EdgeCache.new.Goals as goal

pub returns : goal.returns
returns c = grind (arith, elements)
