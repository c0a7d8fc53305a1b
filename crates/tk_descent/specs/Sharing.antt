-- The distances that the gains of a look have in common.
use Rattle.std.specs.Prelude.{◌≡◌, ℕ, ℤ, pos, ◌+◌, ◌-ℤ◌, List}
use Rattle.tk_distance.specs.Cities.{IsCity}
use Rattle.tk_descent.specs.Offers.{or_offers, IsSegmentIn}
use Rattle.tk_descent.specs.declared.offer.Offer.{Offer}
use Rattle.tk_descent.specs.declared.offer.Segment.{Segment}
use Rattle.tk_descent.specs.declared.looks.sharing.CityWithNeighbours.{CityWithNeighbours}
use Rattle.tk_descent.specs.declared.looks.sharing.RemovedSegment.{RemovedSegment}

-- one of n cities, with its neighbours and the distances to them
abbrev pub IsCityWithNeighbours : ℕ → (ℕ → ℕ → ℕ) → CityWithNeighbours → Type 0
IsCityWithNeighbours n dist b =
    IsCity n b.city × IsCity n b.after × IsCity n b.before × (b.to_after ≡ pos (dist b.city b.after))
    × (b.to_before ≡ pos (dist b.city b.before))

-- a segment from x among n cities, with the length that the tour loses if it is removed: the edges at its ends minus
-- the edge that closes the gap
abbrev pub IsRemovedSegment : ℕ → (ℕ → ℕ → ℕ) → ℕ → RemovedSegment → Type 0
IsRemovedSegment n dist x p =
    IsSegmentIn n p.segment × (p.freed ≡ pos (dist p.segment.before x + dist p.segment.last p.segment.after) -ℤ pos
    (dist p.segment.before p.segment.after))

-- the gain of a 2-opt move before the length of its new edge b-d is subtracted
abbrev pub two_margin : (ℕ → ℕ → ℕ) → ℕ → ℕ → ℕ → ℕ → ℤ
two_margin dist a b c d = pos (dist a b + dist c d) -ℤ pos (dist a c)

-- the gain of moving a segment from x to between y and w, before the length of its new edge to w is subtracted
abbrev pub or_margin : (ℕ → ℕ → ℕ) → ℕ → ℕ → Segment → ℕ → ℤ
or_margin dist x y s w =
    pos (dist s.before x + dist s.last s.after + dist y w) -ℤ pos (dist s.before s.after + dist x y)

abbrev pub segment_of : RemovedSegment → Segment
segment_of p = p.segment

-- the Or-opt offers of a segment from x between y and each of its neighbours
abbrev pub piece_offers : ℕ → CityWithNeighbours → RemovedSegment → List Offer
piece_offers x y p = or_offers x y.city y.after y.before p.segment
