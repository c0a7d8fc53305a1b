-- The totals of a search.
--     AddsTrial old new report gain      the totals after one more trial
--     SettlesTrial n flips swaps old new report      what the trial undoes or copies
--     AreCountsOf totals tour best      swaps and copies are those that the tours have counted
--     IsBounded n width rules shortest totals      the bounds on the work of a search
use Rattle.std.specs.Prelude.{◌≡◌, ℕ, ◌+◌, ◌-◌, ◌*◌, ◌/◌, ◌^◌, ◌<◌, ◌≤◌, pos, ◌≤ℤ◌, min, true, false, if◌then◌else◌}
use Rattle.tk_tour.specs.Counters.{saturated}
use Rattle.tk_tour.specs.JournalTours.{swaps_of, undo_swaps_of, copied_of}
use Rattle.tk_tour.specs.declared.store.TourStore.{Ghosts}
use Rattle.tk_tour.specs.declared.stores.journal.JournalTour.{JournalTour}
use Rattle.tk_tour.specs.declared.undo.UndoStore as undo
use Rattle.tk_search.specs.Best.{copied_to}
use Rattle.tk_search.specs.declared.trials.best.Best.{Best}
use Rattle.tk_search.specs.declared.trials.descending.SearchRules.{SearchRules}
use Rattle.tk_search.specs.declared.trials.totals.Totals.{Totals}
use Rattle.tk_search.specs.declared.trials.totals.TrialReport.{TrialReport}

-- a counter of 128 bits, which saturates at its maximum
abbrev pub capped : ℕ → ℕ
capped count = min count (2 ^ 128 - 1)

-- the totals after one more trial, whose descent shortened its tour by `gain`
pub record AddsTrial (old new : Totals) (report : TrialReport) (gain : ℕ) : Type 0 where
  pub start : new.start ≡ old.start
  pub trials : new.trials ≡ capped (old.trials + 1)
  pub better : new.better ≡ capped (old.better + (if report.better then 1 else 0))
  pub moves : new.moves ≡ capped (old.moves + report.descent.moves)
  pub gained : new.gained ≡ capped (old.gained + gain)
  pub tests : new.tests ≡ capped (old.tests + report.descent.tests)
  pub passes : new.passes ≡ capped (old.passes + report.passes)

-- a count rises by `more` if it stays below 2^64 - 1, where a counter of 64 bits saturates, and otherwise by at most
-- that
pub record RisesBy (more old new : ℕ) : Type 0 where
  pub most : new ≤ old + more
  pub exact : new < 2 ^ 64 - 1 → new ≡ old + more

-- What a trial on n cities undoes or copies after its flips, which are counted with their swaps. A better result is
-- copied to the best tour. Otherwise the flips are undone by as many swaps. If there are more than n flips, the best
-- tour is copied back instead. Nothing else is undone or copied.
pub record SettlesTrial (n flips swaps : ℕ) (old new : Totals) (report : TrialReport) : Type 0 where
  pub counted : new.swaps ≡ saturated (old.swaps + swaps)
  pub taken : report.better ≡ true → (new.undo_swaps ≡ old.undo_swaps) × RisesBy n old.copied new.copied
  pub undone : report.better ≡ false → flips ≤ n →
      (new.swaps < 2 ^ 64 - 1 → new.undo_swaps ≡ old.undo_swaps + swaps) × (new.copied ≡ old.copied)
  pub restored : report.better ≡ false → n < flips → (new.undo_swaps ≡ old.undo_swaps) × RisesBy n old.copied new.copied
  pub limits : (new.swaps < 2 ^ 64) × (new.undo_swaps ≤ new.swaps) × (new.copied < 2 ^ 65)

-- the swaps and the copies of a search are those that its tours have counted, and at most as many swaps were undone as
-- made
pub record AreCountsOf {S : Type 0} {u : undo.Ghosts S} {s : Ghosts S} (totals : Totals) (tour : JournalTour S u s)
    (best : Best) : Type 0 where
  pub swaps : totals.swaps ≡ swaps_of tour
  pub undo_swaps : totals.undo_swaps ≡ undo_swaps_of tour
  pub copied : totals.copied ≡ copied_of tour + copied_to best
  pub undone : totals.undo_swaps ≤ totals.swaps

-- The bounds on the work of a search on n cities with near lists of this width, whose best tour has the length
-- `shortest`.
pub record IsBounded (n width : ℕ) (rules : SearchRules) (shortest : ℕ) (t : Totals) : Type 0 where
  pub tests : rules.sweep ≡ false → t.tests ≤ 4 * rules.or_segment * width * (n + 8 * (t.trials - 1) + 6 * t.moves)
  pub swept : rules.sweep ≡ true → t.tests ≤ 4 * rules.or_segment * width * (n * t.passes + 6 * t.moves)
  pub swaps : t.swaps ≤ 3 * (n / 4) * t.moves + n * t.trials
  pub undo_swaps : t.undo_swaps ≤ t.swaps
  pub moves : t.moves ≤ t.gained
  pub better : pos (shortest + t.better) ≤ℤ t.start
  pub copied : t.copied ≤ n * t.better + 3 * (t.moves + t.trials)
