use Rattle.std.proofs.Common.{◌≡◌, ◌<◌, ◌+◌, ◌/◌, ◌%◌, ℕ, length}
use Rattle.std.specs.Prelude.{pos, slice_index_or}
use Rattle.tk_for_c.proofs.tables.fill_rows.Given as goal

abbrev pub invariant-loop-i : goal.invariant-loop-i
invariant-loop-i g l = (length l.out ≡ length l.fn.out)
    × ((j : ℕ) → j < l.i →
    slice_index_or l.out j (pos 0) ≡ pos (g.M.Metric.distance l.metric (j / l.n + 1) (j % l.n + 1)))
