use Rattle.std.proofs.Common.{◌≡◌, ◌+◌, length, vec_len}
use Rattle.tk_starts.specs.PathEnds.{at, load_of}
use Rattle.tk_starts.proofs.Merging.Pairs.PairsMerged.{Going}
use Rattle.tk_starts.proofs.merges.savings.joined_paths.Given as goal

abbrev pub invariant-loop-k : goal.invariant-loop-k
invariant-loop-k l = record {
  sizes : (vec_len l.paths.one ≡ length l.loads + 1) × (vec_len l.paths.two ≡ length l.loads + 1)
      × (vec_len l.paths.other ≡ length l.loads + 1) × (vec_len l.paths.load ≡ length l.loads + 1);
  joined : Going (length l.loads) (load_of l.loads) l.capacity l.pairs l.k (at l.paths.one.items)
      (at l.paths.two.items) (at l.paths.other.items) (at l.paths.load.items);
}
