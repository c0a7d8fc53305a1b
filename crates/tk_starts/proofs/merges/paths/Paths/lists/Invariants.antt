use Rattle.std.proofs.Common.{◌≡◌, ℕ, ◌-◌, List, map, vec_len}
use Rattle.tk_starts.specs.PathEnds.{at, AreJoined}
use Rattle.tk_starts.specs.Joints.{joints_at}
use Rattle.tk_starts.specs.declared.merges.pairs.Pair.{Pair}
use Rattle.tk_starts.proofs.Merging.Paths.PathsRead.{AreRead}
use Rattle.tk_starts.proofs.merges.paths.Paths.lists.Given as goal

abbrev pub invariant-loop-c : goal.invariant-loop-c
invariant-loop-c l =
    (load : ℕ → ℕ) (E : List Pair) →
    AreJoined (vec_len l.self.one - 1) load E l.self.one.items l.self.two.items l.self.other.items
    l.self.load.items → joints_at E l.hub ≡ 0 →
    AreRead (vec_len l.self.one - 1) l.hub E (at l.self.one.items) (at l.self.two.items) (at l.self.other.items) l.c
    (map (λ x. x.items) l.lists.items)
