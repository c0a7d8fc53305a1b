use Rattle.std.proofs.Common.{◌≡◌, ◌<◌, ◌≤◌, ◌-◌, ◌∷◌, take, drop, length}
use Rattle.std.specs.Prelude.{insert}
use Rattle.tk_near.specs.declared.candidates.Candidate.{Candidate}
use Rattle.tk_near.specs.Keeping.{rank, insert_by}
use Rattle.tk_near.proofs.candidates.keep_among.Given as goal

abbrev pub invariant-loop-i : goal.invariant-loop-i
invariant-loop-i l =
    (l.i < length l.fn.kept) × ((y : Candidate) × (l.kept ≡ insert (take (length l.fn.kept - 1) l.fn.kept) l.i y))
    × (insert_by rank l.x (drop l.i (take (length l.fn.kept - 1) l.fn.kept)) ≡ l.x
    ∷ drop l.i (take (length l.fn.kept - 1) l.fn.kept)) × (l.i ≤ l.end)

abbrev pub decreases-loop-i : goal.decreases-loop-i
decreases-loop-i l = l.i
