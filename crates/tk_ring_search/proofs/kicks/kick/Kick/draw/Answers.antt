use Rattle.std.proofs.Common.{rules}
use Rattle.tk_ring_search.proofs.kicks.kick.Kick.draw.Goals as goal

pub returns-clause-drawn : goal.returns-clause-drawn
returns-clause-drawn g c = search rules
