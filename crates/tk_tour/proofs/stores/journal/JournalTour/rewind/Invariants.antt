use Rattle.std.proofs.Common.{◌≡◌, ◌≤◌, ◌+◌, vec_len}
use Rattle.tk_tour.specs.Counters.{saturated}
use Rattle.tk_tour.specs.Journal.{undone, swaps_to_undo}
use Rattle.tk_tour.proofs.stores.journal.JournalTour.rewind.Given as goal

abbrev pub invariant-loop-flip : goal.invariant-loop-flip
invariant-loop-flip g l = record {
  settled : undone l.self.journal.items (g.S.TourStore.cities l.self.tour) ≡ undone l.initial.self.journal.items
      (g.S.TourStore.cities l.initial.self.tour);
  slots : l.self.slots ≡ l.initial.self.slots;
  not_lost : l.self.flips ≤ l.self.slots;
  swaps : g.S.TourStore.swap_count l.self.tour ≡ g.S.TourStore.swap_count l.initial.self.tour;
  flips : g.S.TourStore.flip_count l.self.tour ≡ g.S.TourStore.flip_count l.initial.self.tour;
  copied : g.S.UndoStore.copy_count l.self.tour ≡ g.S.UndoStore.copy_count l.initial.self.tour;
  undo_swaps : saturated (g.S.UndoStore.undo_count l.self.tour + swaps_to_undo l.self.journal.items) ≡ saturated
      (g.S.UndoStore.undo_count l.initial.self.tour + swaps_to_undo l.initial.self.journal.items);
}

abbrev pub decreases-loop-flip : goal.decreases-loop-flip
decreases-loop-flip g l = vec_len l.self.journal
