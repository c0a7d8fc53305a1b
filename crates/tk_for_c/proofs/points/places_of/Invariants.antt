use Rattle.std.proofs.Common.{◌≡◌, ◌<◌, ℕ, length}
use Rattle.std.specs.Prelude.{pos, slice_index_or}
use Rattle.tk_problem.specs.Places.{IsNearOrigin, origin}
use Rattle.tk_for_c.proofs.points.places_of.Given as goal
use Rattle.tk_for_c.specs.Points.{place_at}

abbrev pub invariant-loop-i : goal.invariant-loop-i
invariant-loop-i l = (length l.points ≡ length l.xs)
    × ((j : ℕ) → j < l.i →
    slice_index_or l.points j origin ≡ record { x = slice_index_or l.xs j (pos 0); y = slice_index_or l.ys j (pos 0) })
    × ((j : ℕ) → j < l.i → IsNearOrigin (place_at l.xs l.ys j))
