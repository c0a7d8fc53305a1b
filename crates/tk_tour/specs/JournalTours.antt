-- The state of a `JournalTour`, as its contracts describe it: its tour, and the order that a rewind restores.
use Rattle.std.specs.Prelude.{◌≡◌, ℕ, ◌+◌, ◌^◌, ◌<◌, ◌≤◌, List, refl}
use Rattle.std.proofs.Common.{◌∙◌, arith}
use Rattle.tk_tour.specs.Counters.{saturated}
use Rattle.tk_tour.specs.Journal.{undone, swaps_to_undo}
use Rattle.tk_tour.specs.TourCounters.{TourCounters, OnlyFlips, OnlyFlips-refl, OnlyFlips-refl-counts, OnlyFlips-trans}
use Rattle.tk_tour.specs.TourCounters.{OnlyFlips-trans-counts}
use Rattle.tk_tour.specs.declared.store.TourStore.{Ghosts}
use Rattle.tk_tour.specs.declared.stores.journal.JournalTour.{JournalTour}
use Rattle.tk_tour.specs.declared.undo.UndoStore as undo

abbrev pub tour_of : {S : Type 0} → {u : undo.Ghosts S} → {s : Ghosts S} → JournalTour S u s → S
tour_of journal = journal.tour

-- the cities of its tour in their order, and its counters: the swaps of its flips, those of its undone flips, its
-- flips, and the cities that were copied into it
abbrev pub cities_of : {S : Type 0} → {u : undo.Ghosts S} → {s : Ghosts S} → JournalTour S u s → List ℕ
cities_of {S} {u} {s} journal = s.cities journal.tour

abbrev pub swaps_of : {S : Type 0} → {u : undo.Ghosts S} → {s : Ghosts S} → JournalTour S u s → ℕ
swaps_of {S} {u} {s} journal = s.swap_count journal.tour

abbrev pub undo_swaps_of : {S : Type 0} → {u : undo.Ghosts S} → {s : Ghosts S} → JournalTour S u s → ℕ
undo_swaps_of {S} {u} {s} journal = u.undo_count journal.tour

abbrev pub flips_of : {S : Type 0} → {u : undo.Ghosts S} → {s : Ghosts S} → JournalTour S u s → ℕ
flips_of {S} {u} {s} journal = s.flip_count journal.tour

abbrev pub copied_of : {S : Type 0} → {u : undo.Ghosts S} → {s : Ghosts S} → JournalTour S u s → ℕ
copied_of {S} {u} {s} journal = u.copy_count journal.tour

-- the counters of flips and swaps are unchanged
abbrev pub SameFlips : {S : Type 0} → {u : undo.Ghosts S} → {s : Ghosts S} → JournalTour S u s → JournalTour S u s →
    Type 0
SameFlips old new = (swaps_of new ≡ swaps_of old) × (flips_of new ≡ flips_of old)
    × (undo_swaps_of new ≡ undo_swaps_of old)

-- the number of flips for which there is room
abbrev pub slots_of : {S : Type 0} → {u : undo.Ghosts S} → {s : Ghosts S} → JournalTour S u s → ℕ
slots_of journal = journal.slots

-- the number of flips since the tour was created, settled or rewound
abbrev pub flips_since : {S : Type 0} → {u : undo.Ghosts S} → {s : Ghosts S} → JournalTour S u s → ℕ
flips_since journal = journal.flips

-- the journal has overflowed: there was no room for some of these flips
abbrev pub IsLost : {S : Type 0} → {u : undo.Ghosts S} → {s : Ghosts S} → JournalTour S u s → Type 0
IsLost journal = slots_of journal < flips_since journal

-- the order in which the tour was last settled, unless the journal has overflowed
abbrev pub settled_order : {S : Type 0} → {u : undo.Ghosts S} → {s : Ghosts S} → JournalTour S u s → List ℕ
settled_order journal = undone journal.journal.items (cities_of journal)

-- the swaps that a rewind takes, unless the journal has overflowed
abbrev pub swaps_to_rewind : {S : Type 0} → {u : undo.Ghosts S} → {s : Ghosts S} → JournalTour S u s → ℕ
swaps_to_rewind journal = swaps_to_undo journal.journal.items

abbrev pub tally_of : {S : Type 0} → undo.Ghosts S → Ghosts S → S → TourCounters
tally_of u s tour = record {
  cities = s.cities tour;
  swaps = s.swap_count tour;
  undo_swaps = u.undo_count tour;
  flips = s.flip_count tour;
  copied = u.copy_count tour;
}

-- the effect of flips on its tour, without any other call
abbrev pub AreFlipped : {S : Type 0} → undo.Ghosts S → Ghosts S → S → S → Type 0
AreFlipped u s old new = OnlyFlips (tally_of u s old) (tally_of u s new)

-- the effect of flips without any other call: they are counted, and unless the journal has overflowed, a rewind
-- restores the same order as before and takes their swaps in addition
pub record KeepsSettled {S : Type 0} {u : undo.Ghosts S} {s : Ghosts S} (old new : JournalTour S u s) : Type 0 where
  pub slots : slots_of new ≡ slots_of old
  pub flipped : AreFlipped u s (tour_of old) (tour_of new)
  pub flips : flips_since new ≡ saturated (flips_since old + flipped.flips)
  pub settled : flips_since new ≤ slots_of new → settled_order new ≡ settled_order old
  pub swaps : flips_since new ≤ slots_of new → swaps_to_rewind new ≡ swaps_to_rewind old + flipped.swaps

pub KeepsSettled-refl : {S : Type 0} → {u : undo.Ghosts S} → {s : Ghosts S} →
    ((t : S) → (s.swap_count t < 2 ^ 64) × (s.flip_count t < 2 ^ 64) × (u.undo_count t < 2 ^ 64)) →
    (tour : JournalTour S u s) → KeepsSettled tour tour
KeepsSettled-refl {S} {u} {s} fit tour =
    let here = tally_of u s (tour_of tour) in
    let f = fit (tour_of tour) in
    let none = OnlyFlips-refl-counts here f.1 f.0 in
    record {
      slots = refl;
      flipped = OnlyFlips-refl here f.1 f.0;
      flips = omega (arith, tour.fits, none.0);
      settled = λ _. refl;
      swaps = λ _. omega (arith, none.1);
    }

pub KeepsSettled-trans : {S : Type 0} → {u : undo.Ghosts S} → {s : Ghosts S} → (x y z : JournalTour S u s) →
    KeepsSettled x y → KeepsSettled y z → KeepsSettled x z
KeepsSettled-trans {S} {u} {s} x y z h k =
    let both = OnlyFlips-trans-counts _ _ (tally_of u s (tour_of z)) h.flipped k.flipped in
    let room : flips_since z ≤ slots_of z → flips_since y ≤ slots_of y = λ le.
    omega (arith, h.flips, k.flips, k.slots, le) in
    record {
      slots = k.slots ∙ h.slots;
      flipped = OnlyFlips-trans _ _ (tally_of u s (tour_of z)) h.flipped k.flipped;
      flips = omega (arith, h.flips, k.flips, both.0);
      settled = λ le. k.settled le ∙ h.settled (room le);
      swaps = λ le. omega (arith, h.swaps (room le), k.swaps le, both.1);
    }
