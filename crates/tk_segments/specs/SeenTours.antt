-- The tour that the segments of an array show.
use Rattle.std.specs.Prelude.{◌≡◌, ℕ, ◌+◌, ◌-◌, ◌*◌, ◌/◌, ◌<◌, ◌≤◌, List, if◌then◌else◌, length, nat_le}
use Rattle.std.specs.Prelude.{slice_index, vec_len}
use Rattle.tk_tour.specs.Reversal.{begun_at, reversed_places}
use Rattle.tk_segments.specs.Segments.{IsSpot, shown}
use Rattle.tk_segments.specs.Writes.{ArePaid, changed}
use Rattle.tk_segments.specs.declared.seen.SeenTour.{SeenTour}
use Rattle.tk_segments.specs.declared.spots.Spot.{Spot}

-- the tour: the sequence, rotated to begin at position `begin`
abbrev pub list_of : SeenTour → List ℕ
list_of tour = begun_at tour.begin (shown tour.order.items tour.segments.segments.items)

-- the number of segments
abbrev pub segment_count_of : SeenTour → ℕ
segment_count_of tour = vec_len tour.segments.segments

-- the maximum number of segments that leaves room for two more
abbrev pub room_of : SeenTour → ℕ
room_of tour = tour.segments.most - 2

-- the array
abbrev pub array_of : SeenTour → List ℕ
array_of tour = tour.order.items

-- how many array positions are written to make room for two more segments: none if there is room, otherwise all
abbrev pub room_cost : SeenTour → ℕ
room_cost tour = if nat_le (segment_count_of tour) (room_of tour) then 0 else length (list_of tour)

-- how many array positions are written to reverse `count` positions of the list: two for each swap if the reversal is
-- short, otherwise those that make room
abbrev pub reversal_cost : SeenTour → ℕ → ℕ
reversal_cost tour count = if nat_le count tour.short then 2 * (count / 2) else room_cost tour

-- if the swaps pay for the writes, they still do after this many more writes and swaps
abbrev pub StaysPaid : SeenTour → SeenTour → ℕ → ℕ → Type 0
StaysPaid old new written swapped = (writes swaps : ℕ) →
    ArePaid (length (list_of old)) (room_of old) writes (segment_count_of old) swaps →
    ArePaid (length (list_of old)) (room_of old) (writes + written) (segment_count_of new) (swaps + swapped)

-- the spot is that of a city
pub record SeesAt (tour : SeenTour) (city : ℕ) (spot : Spot) : Type 0 where
  pub place : ℕ
  pub inside : place < tour.segments.size
  pub is : IsSpot tour.segments.segments.items place spot
  pub shows : slice_index (shown tour.order.items tour.segments.segments.items) place ≡ city

-- `count` positions of the list, from `first` on (counted from 0), are reversed, at the cost of this many array writes
pub record IsReversed (old new : SeenTour) (first count cost : ℕ) : Type 0 where
  pub list : list_of new ≡ reversed_places first count (list_of old)
  pub exact : cost ≡ reversal_cost old count
  pub paid : StaysPaid old new cost (count / 2)
  pub room : room_of new ≡ room_of old
  pub small : cost ≤ length (list_of old)
  pub written : changed (array_of old) (array_of new) ≤ cost
  pub size : length (array_of new) ≡ length (array_of old)
