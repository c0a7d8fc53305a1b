-- What callers see of a `SegmentTour`: the order of its cities, and its counters.
use Rattle.std.specs.Prelude.{◌≡◌, ℕ, ◌+◌, ◌^◌, ◌<◌, ◌≤◌, List, length, refl}
use Rattle.std.proofs.Common.{◌∙◌, arith}
use Rattle.tk_tour.specs.Counters.{saturated}
use Rattle.tk_tour.specs.TourCounters.{TourCounters, OnlyFlips, OnlyFlips-refl, OnlyFlips-trans}
use Rattle.tk_segments.specs.SeenTours.{array_of, list_of, reversal_cost, segment_count_of, room_of}
use Rattle.tk_segments.specs.Writes.{changed}
use Rattle.tk_segments.specs.WriteLaws.{changed-refl, changed-trans}
use Rattle.tk_segments.specs.declared.tour.SegmentTour.{SegmentTour}

-- the cities in tour order
abbrev pub seen_order : SegmentTour → List ℕ
seen_order tour = list_of tour.seen

-- the counters: the swaps that its flips take in an array, those that undo flips, the flips, the cities copied into it,
-- and the positions of its own array that have been written
abbrev pub seen_swaps : SegmentTour → ℕ
seen_swaps tour = tour.swaps

abbrev pub seen_undo_swaps : SegmentTour → ℕ
seen_undo_swaps tour = tour.undo_swaps

abbrev pub seen_flips : SegmentTour → ℕ
seen_flips tour = tour.flips

abbrev pub seen_copied : SegmentTour → ℕ
seen_copied tour = tour.copied

abbrev pub writes_of : SegmentTour → ℕ
writes_of tour = tour.writes

-- its array, which is divided into segments
abbrev pub seen_array : SegmentTour → List ℕ
seen_array tour = array_of tour.seen

-- the number of segments, and their maximum number
abbrev pub segments_of : SegmentTour → ℕ
segments_of tour = segment_count_of tour.seen

abbrev pub most_of : SegmentTour → ℕ
most_of tour = room_of tour.seen + 2

-- how many array positions are written to reverse `count` positions: two for each swap if the reversal is short;
-- otherwise none, or all if there is no room for two more segments
abbrev pub write_cost : SegmentTour → ℕ → ℕ
write_cost tour count = reversal_cost tour.seen count

abbrev pub seen_tally : SegmentTour → TourCounters
seen_tally tour = record {
  cities = seen_order tour;
  swaps = seen_swaps tour;
  undo_swaps = seen_undo_swaps tour;
  flips = seen_flips tour;
  copied = seen_copied tour;
}

-- the effect of flips only; each array position that has changed is counted as written, too
pub record SeenFlips (old new : SegmentTour) : Type 0 where
  pub flipped : OnlyFlips (seen_tally old) (seen_tally new)
  pub most : most_of new ≡ most_of old
  pub size : length (seen_array new) ≡ length (seen_array old)
  pub writes : saturated (writes_of old + changed (seen_array old) (seen_array new)) ≤ writes_of new

pub SeenFlips-refl : (tour : SegmentTour) → SeenFlips tour tour
SeenFlips-refl tour = record {
  flipped = OnlyFlips-refl (seen_tally tour) tour.fits.2 tour.fits.0;
  most = refl;
  size = refl;
  writes = omega (arith, tour.writes_fit, changed-refl (seen_array tour));
}

pub SeenFlips-trans : (r s t : SegmentTour) → SeenFlips r s → SeenFlips s t → SeenFlips r t
SeenFlips-trans r s t h k = record {
  flipped = OnlyFlips-trans (seen_tally r) (seen_tally s) (seen_tally t) h.flipped k.flipped;
  most = k.most ∙ h.most;
  size = k.size ∙ h.size;
  writes = omega (
    arith,
    h.writes,
    k.writes,
    changed-trans (seen_array r) (seen_array s) (seen_array t) (omega (arith, h.size)),
  );
}

-- flips change neither the undone swaps nor the copied cities
pub SeenFlips-kept : (old new : SegmentTour) → SeenFlips old new →
    (seen_undo_swaps new ≡ seen_undo_swaps old) × (seen_copied new ≡ seen_copied old)
SeenFlips-kept old new h = (h.flipped.undo_swaps, h.flipped.copied)

pub SegmentTour-fits : (tour : SegmentTour) →
    (seen_swaps tour < 2 ^ 64) × (seen_flips tour < 2 ^ 64) × (seen_undo_swaps tour < 2 ^ 64)
SegmentTour-fits tour = (tour.fits.0, tour.fits.2, tour.fits.1)
