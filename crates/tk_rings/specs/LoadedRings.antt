-- The state of a `LoadedRing`, as contracts describe it: its ring, and the demands of the customers.
use Rattle.std.specs.Prelude.{◌≡◌, ℕ, ◌^◌, ◌<◌, List, refl}
use Rattle.std.proofs.Common.{◌∙◌}
use Rattle.tk_tour.specs.JournalTours.{KeepsSettled, KeepsSettled-refl, KeepsSettled-trans, cities_of, flips_since}
use Rattle.tk_tour.specs.JournalTours.{swaps_of}
use Rattle.tk_tour.specs.declared.store.TourStore.{Ghosts}
use Rattle.tk_tour.specs.declared.stores.journal.JournalTour.{JournalTour}
use Rattle.tk_tour.specs.declared.undo.UndoStore as undo
use Rattle.tk_descent.specs.Awake.{Awake}
use Rattle.tk_descent.specs.Descents.{DescentState}
use Rattle.tk_rings.specs.declared.loaded.LoadedRing.{LoadedRing}

abbrev pub ring_in : {S : Type 0} → {u : undo.Ghosts S} → {s : Ghosts S} → LoadedRing S u s → JournalTour S u s
ring_in loaded = loaded.ring

abbrev pub demands_in : {S : Type 0} → {u : undo.Ghosts S} → {s : Ghosts S} → LoadedRing S u s → List ℕ
demands_in loaded = loaded.demands.now

abbrev pub cities_in : {S : Type 0} → {u : undo.Ghosts S} → {s : Ghosts S} → LoadedRing S u s → List ℕ
cities_in loaded = cities_of loaded.ring

abbrev pub swaps_in : {S : Type 0} → {u : undo.Ghosts S} → {s : Ghosts S} → LoadedRing S u s → ℕ
swaps_in loaded = swaps_of loaded.ring

abbrev pub flips_in : {S : Type 0} → {u : undo.Ghosts S} → {s : Ghosts S} → LoadedRing S u s → ℕ
flips_in loaded = flips_since loaded.ring

-- the state of a descent with this ring and these waking elements, after `tests` tests
abbrev pub stand_in : {S : Type 0} → {u : undo.Ghosts S} → {s : Ghosts S} → LoadedRing S u s → Awake → ℕ → DescentState
stand_in loaded waking tests = record {
  tour = cities_in loaded;
  awake = waking.queue;
  tests = tests;
  swaps = swaps_in loaded;
  flips = flips_in loaded;
}

-- the effect of flips without any other call: that on the ring, and the demands are the same
pub record KeepsLoaded {S : Type 0} {u : undo.Ghosts S} {s : Ghosts S} (old new : LoadedRing S u s) : Type 0 where
  pub settled : KeepsSettled old.ring new.ring
  pub demands : demands_in new ≡ demands_in old

pub KeepsLoaded-refl : {S : Type 0} → {u : undo.Ghosts S} → {s : Ghosts S} →
    ((t : S) → (s.swap_count t < 2 ^ 64) × (s.flip_count t < 2 ^ 64) × (u.undo_count t < 2 ^ 64)) →
    (ring : LoadedRing S u s) → KeepsLoaded ring ring
KeepsLoaded-refl fit ring = record { settled = KeepsSettled-refl fit ring.ring; demands = refl }

pub KeepsLoaded-trans : {S : Type 0} → {u : undo.Ghosts S} → {s : Ghosts S} → (x y z : LoadedRing S u s) →
    KeepsLoaded x y → KeepsLoaded y z → KeepsLoaded x z
KeepsLoaded-trans x y z h k = record {
  settled = KeepsSettled-trans x.ring y.ring z.ring h.settled k.settled;
  demands = k.demands ∙ h.demands;
}
