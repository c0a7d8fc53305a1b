-- The end of a trial, in terms of the tours of a search.
use Rattle.std.specs.Prelude.{◌≡◌, ℕ, ◌+◌, ◌<◌, ◌≤◌, true, false, length}
use Rattle.tk_tour.specs.Counters.{saturated}
use Rattle.tk_tour.specs.JournalTours.{swaps_of, undo_swaps_of, flips_of, copied_of, slots_of, flips_since}
use Rattle.tk_tour.specs.JournalTours.{swaps_to_rewind}
use Rattle.tk_tour.specs.declared.store.TourStore.{Ghosts}
use Rattle.tk_tour.specs.declared.undo.UndoStore as undo
use Rattle.tk_search.specs.Best.{best_of, copied_to}
use Rattle.tk_search.specs.Totals.{RisesBy}
use Rattle.tk_search.specs.declared.trials.state.State.{State}
use Rattle.tk_search.specs.declared.trials.totals.TrialReport.{TrialReport}

abbrev pub all_copied : {S : Type 0} → {u : undo.Ghosts S} → {s : Ghosts S} → State S u s → ℕ
all_copied state = copied_of state.tour + copied_to state.best

-- From the state before a descent to that after the trial: the flips of the descent are counted with their swaps. Then
-- a better result is copied. Otherwise the flips since the tour was last settled are undone. If there are more of them
-- than slots in the journal, the best tour is copied back instead.
pub record EndsTrial {S : Type 0} {u : undo.Ghosts S} {s : Ghosts S} (flips swaps : ℕ) (old new : State S u s)
    (report : TrialReport) : Type 0 where
  pub flips_are : flips_of new.tour ≡ saturated (flips_of old.tour + flips)
  pub swaps_are : swaps_of new.tour ≡ saturated (swaps_of old.tour + swaps)
  pub taken : report.better ≡ true → (undo_swaps_of new.tour ≡ undo_swaps_of old.tour)
      × RisesBy (length (best_of old.best)) (all_copied old) (all_copied new)
  pub undone : report.better ≡ false → flips_since old.tour + flips ≤ slots_of old.tour →
      (undo_swaps_of new.tour
      ≡ saturated (undo_swaps_of old.tour + (swaps_to_rewind old.tour + swaps)))
      × (all_copied new ≡ all_copied old)
  pub restored : report.better ≡ false → slots_of old.tour < flips_since old.tour + flips →
      (undo_swaps_of new.tour ≡ undo_swaps_of old.tour)
      × RisesBy (length (best_of old.best)) (all_copied old) (all_copied new)
