use Rattle.std.proofs.Common.{◌-◌, vec_len}
use Rattle.tk_starts.specs.PathEnds.{at}
use Rattle.tk_starts.proofs.Merging.Paths.PathWalked.{OnWay}
use Rattle.tk_starts.proofs.merges.paths.Paths.path.Given as goal

abbrev pub invariant-loop-c : goal.invariant-loop-c
invariant-loop-c l = OnWay (vec_len l.self.one - 1) (at l.self.one.items) (at l.self.two.items) l.end
    l.cities.items l.before l.c

abbrev pub decreases-loop-c : goal.decreases-loop-c
decreases-loop-c l = vec_len l.self.one - vec_len l.cities
