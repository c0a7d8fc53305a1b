-- The canonical form of a tour.
use Rattle.std.specs.Prelude.{◌≡◌, ℕ, List, min, slice_index}
use Rattle.tk_tour.specs.Tour.{SameCycle, next_city, prev_city}

-- the same cycle, beginning with city 1 and the smaller of its two neighbours
pub record IsPrintedForm (cities printed : List ℕ) : Type 0 where
  pub cycle : SameCycle cities printed
  pub first : slice_index printed 0 ≡ 1
  pub second : slice_index printed 1 ≡ min (next_city cities 1) (prev_city cities 1)
