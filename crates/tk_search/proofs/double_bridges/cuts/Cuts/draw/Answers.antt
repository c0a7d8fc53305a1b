use Rattle.std.proofs.Common.{rules}
use Rattle.tk_search.proofs.double_bridges.cuts.Cuts.draw.Goals as goal

pub returns-clause-drawn : goal.returns-clause-drawn
returns-clause-drawn g c = search rules
