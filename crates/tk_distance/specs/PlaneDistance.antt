-- The distance of each plane type as a function: the number that `Distance.IsDistance` describes.
use Rattle.std.specs.Prelude.{ℕ, zero, suc, ◌+◌, ◌-◌, ◌*◌, Bool, nat_le, max, if◌then◌else◌}
use Rattle.tk_problem.specs.Places.{scale}
use Rattle.tk_problem.specs.declared.point.Point.{Point}
use Rattle.tk_problem.specs.declared.weights.PlaneKind.{PlaneKind}
use Rattle.tk_problem.specs.declared.weights.PlaneKind.TheVariants.{Euc2d, Ceil2d, Man2d, Max2d, Att}
use Rattle.tk_distance.specs.Distance.{square_sum, gap}

-- the largest number from 1 to n that passes, or 0 if there is none
unfoldable pub last_passing : (ℕ → Bool) → ℕ → ℕ
last_passing passes zero = 0
last_passing passes (suc n) = if passes (suc n) then suc n else last_passing passes n

-- the smallest number from k on that passes; at most n numbers are tried
unfoldable pub first_passing : (ℕ → Bool) → ℕ → ℕ → ℕ
first_passing passes k zero = k
first_passing passes k (suc n) = if passes k then k else first_passing passes (suc k) n

unfoldable pub rounded_length : ℕ → ℕ
rounded_length length = last_passing (λ d. nat_le ((2 * d - 1) * scale) (2 * length)) (length + 1)

unfoldable pub rounded_root : ℕ → ℕ
rounded_root square = last_passing (λ d. nat_le ((2 * d - 1) * (2 * d - 1) * (scale * scale)) (4 * square)) (square + 1)

unfoldable pub covering_root : ℕ → ℕ → ℕ
covering_root parts square = first_passing (λ d. nat_le square (parts * (d * d * (scale * scale)))) 0 square

-- the distance of points whose coordinates differ by dx and dy
unfoldable pub distance_at : PlaneKind → ℕ → ℕ → ℕ
distance_at Euc2d dx dy = rounded_root (square_sum dx dy)
distance_at Ceil2d dx dy = covering_root 1 (square_sum dx dy)
distance_at Man2d dx dy = rounded_length (dx + dy)
distance_at Max2d dx dy = rounded_length (max dx dy)
distance_at Att dx dy = covering_root 10 (square_sum dx dy)

-- the distance of two points
abbrev pub distance_of : PlaneKind → Point → Point → ℕ
distance_of kind p q = distance_at kind (gap p.x q.x) (gap p.y q.y)
