-- The tour of a search between two trials.
use Rattle.std.specs.Prelude.{◌≡◌}
use Rattle.tk_tour.specs.JournalTours.{cities_of, flips_since, settled_order, swaps_to_rewind}
use Rattle.tk_tour.specs.declared.store.TourStore.{Ghosts}
use Rattle.tk_tour.specs.declared.stores.journal.JournalTour.{JournalTour}
use Rattle.tk_tour.specs.declared.undo.UndoStore as undo
use Rattle.tk_search.specs.Best.{best_of}
use Rattle.tk_search.specs.declared.trials.best.Best.{Best}

-- the tour has the order of the best tour, and is settled with it
pub record IsAtBest {S : Type 0} {u : undo.Ghosts S} {s : Ghosts S} (tour : JournalTour S u s)
    (best : Best) : Type 0 where
  pub order : cities_of tour ≡ best_of best
  pub settled : settled_order tour ≡ best_of best
  pub flips : flips_since tour ≡ 0
  pub swaps : swaps_to_rewind tour ≡ 0
