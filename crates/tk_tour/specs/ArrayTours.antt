-- The state of an `ArrayTour`, as its contracts describe it: the order of its cities and its counters.
use Rattle.std.specs.Prelude.{◌≡◌, ℕ, ◌<◌, ◌^◌, List}
use Rattle.tk_tour.specs.TourCounters.{TourCounters, OnlyFlips, OnlyFlips-refl, OnlyFlips-trans}
use Rattle.tk_tour.specs.declared.stores.array.ArrayTour.{ArrayTour}

-- the cities in their order
abbrev pub order_of : ArrayTour → List ℕ
order_of tour = tour.order.items

-- the swaps of its flips, those of its undone flips, its flips, and the cities that were copied into it
abbrev pub swaps_of : ArrayTour → ℕ
swaps_of tour = tour.swaps

abbrev pub undo_swaps_of : ArrayTour → ℕ
undo_swaps_of tour = tour.undo_swaps

abbrev pub flips_of : ArrayTour → ℕ
flips_of tour = tour.flips

abbrev pub copied_of : ArrayTour → ℕ
copied_of tour = tour.copied

-- the counters of flips and swaps are unchanged
abbrev pub SameFlips : ArrayTour → ArrayTour → Type 0
SameFlips old new = (swaps_of new ≡ swaps_of old) × (flips_of new ≡ flips_of old)
    × (undo_swaps_of new ≡ undo_swaps_of old)

abbrev pub tally_of : ArrayTour → TourCounters
tally_of tour = record {
  cities = order_of tour;
  swaps = swaps_of tour;
  undo_swaps = undo_swaps_of tour;
  flips = flips_of tour;
  copied = copied_of tour;
}

-- the effect of flips without any other call
abbrev pub FlipsAlone : ArrayTour → ArrayTour → Type 0
FlipsAlone old new = OnlyFlips (tally_of old) (tally_of new)

pub FlipsAlone-refl : (tour : ArrayTour) → FlipsAlone tour tour
FlipsAlone-refl tour = OnlyFlips-refl (tally_of tour) tour.fits.2 tour.fits.0

pub FlipsAlone-trans : (r s t : ArrayTour) → FlipsAlone r s → FlipsAlone s t → FlipsAlone r t
FlipsAlone-trans r s t h k = OnlyFlips-trans (tally_of r) (tally_of s) (tally_of t) h k

-- flips leave the other counters unchanged
pub FlipsAlone-kept : (old new : ArrayTour) → FlipsAlone old new →
    (undo_swaps_of new ≡ undo_swaps_of old) × (copied_of new ≡ copied_of old)
FlipsAlone-kept old new h = (h.undo_swaps, h.copied)

pub ArrayTour-fits : (tour : ArrayTour) →
    (swaps_of tour < 2 ^ 64) × (flips_of tour < 2 ^ 64) × (undo_swaps_of tour < 2 ^ 64)
ArrayTour-fits tour = (tour.fits.0, tour.fits.2, tour.fits.1)
