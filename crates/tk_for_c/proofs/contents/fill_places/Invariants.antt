-- the coordinates of the points before this one are written
use Rattle.std.proofs.Common.{◌≡◌, ◌<◌, ℕ, length}
use Rattle.std.specs.Prelude.{pos, slice_index_or}
use Rattle.tk_problem.specs.Places.{origin}
use Rattle.tk_for_c.proofs.contents.fill_places.Given as goal

abbrev pub invariant-loop-i : goal.invariant-loop-i
invariant-loop-i l = record {
  xs_count : length l.xs ≡ length l.fn.xs;
  ys_count : length l.ys ≡ length l.fn.ys;
  xs : (j : ℕ) → j < l.i → slice_index_or l.xs j (pos 0) ≡ (slice_index_or l.points j origin).x;
  ys : (j : ℕ) → j < l.i → slice_index_or l.ys j (pos 0) ≡ (slice_index_or l.points j origin).y;
}
