-- The order and the counters of a tour store, and the effect of flips on them.
use Rattle.std.specs.Prelude.{◌≡◌, ℕ, ◌+◌, ◌^◌, ◌<◌, List, refl}
use Rattle.std.proofs.Common.{◌∙◌, arith}
use Rattle.tk_tour.specs.Counters.{saturated}
use Rattle.tk_tour.specs.Reversal.{AreReversed}
use Rattle.tk_tour.specs.Reversal.AreReversed.{none}
use Rattle.tk_tour.specs.ReversalLaws.{AreReversed-append}

-- the cities in their order; the swaps of the flips, those of undone flips, the flips, and the cities that were copied
pub record TourCounters : Type 0 where
  pub cities : List ℕ
  pub swaps : ℕ
  pub undo_swaps : ℕ
  pub flips : ℕ
  pub copied : ℕ

-- the new order comes from the old one by reversals, which are counted with their swaps; other counters are unchanged
pub record OnlyFlips (old new : TourCounters) : Type 0 where
  pub flips : ℕ
  pub swaps : ℕ
  pub reversed : AreReversed old.cities new.cities flips swaps
  pub flips_are : new.flips ≡ saturated (old.flips + flips)
  pub swaps_are : new.swaps ≡ saturated (old.swaps + swaps)
  pub undo_swaps : new.undo_swaps ≡ old.undo_swaps
  pub copied : new.copied ≡ old.copied

pub OnlyFlips-refl : (tally : TourCounters) → tally.flips < 2 ^ 64 → tally.swaps < 2 ^ 64 → OnlyFlips tally tally
OnlyFlips-refl tally few small = record {
  flips = 0;
  swaps = 0;
  reversed = none;
  flips_are = omega (arith, few);
  swaps_are = omega (arith, small);
  undo_swaps = refl;
  copied = refl;
}

pub OnlyFlips-refl-counts : (tally : TourCounters) (few : tally.flips < 2 ^ 64) (small : tally.swaps < 2 ^ 64) →
    ((OnlyFlips-refl tally few small).flips ≡ 0) × ((OnlyFlips-refl tally few small).swaps ≡ 0)
unfolding OnlyFlips-refl
OnlyFlips-refl-counts tally few small = (refl, refl)

pub OnlyFlips-trans : (r s t : TourCounters) → OnlyFlips r s → OnlyFlips s t → OnlyFlips r t
OnlyFlips-trans r s t h k = record {
  flips = h.flips + k.flips;
  swaps = h.swaps + k.swaps;
  reversed = AreReversed-append _ _ _ _ _ _ _ h.reversed k.reversed;
  flips_are = omega (arith, h.flips_are, k.flips_are);
  swaps_are = omega (arith, h.swaps_are, k.swaps_are);
  undo_swaps = k.undo_swaps ∙ h.undo_swaps;
  copied = k.copied ∙ h.copied;
}

-- the flips and the swaps of both add up
pub OnlyFlips-trans-counts : (r s t : TourCounters) (h : OnlyFlips r s) (k : OnlyFlips s t) →
    ((OnlyFlips-trans r s t h k).flips ≡ h.flips + k.flips) × ((OnlyFlips-trans r s t h k).swaps ≡ h.swaps + k.swaps)
unfolding OnlyFlips-trans
OnlyFlips-trans-counts r s t h k = (refl, refl)
