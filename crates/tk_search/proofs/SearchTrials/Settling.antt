-- What a trial undoes or copies, in terms of its totals.
use Rattle.std.proofs.Common.{◌≡◌, ℕ, ◌+◌, ◌-◌, ◌^◌, ◌<◌, ◌≤◌, length, arith}
use Rattle.tk_tour.specs.Counters.{saturated}
use Rattle.tk_tour.specs.JournalTours.{swaps_of, undo_swaps_of, slots_of, flips_since, swaps_to_rewind}
use Rattle.tk_tour.specs.declared.store.TourStore.{Ghosts}
use Rattle.tk_tour.specs.declared.undo.UndoStore as undo
use Rattle.tk_search.specs.Best.{best_of}
use Rattle.tk_search.specs.Ending.{EndsTrial, all_copied}
use Rattle.tk_search.specs.Totals.{AreCountsOf, SettlesTrial}
use Rattle.tk_search.specs.declared.trials.state.State.{State}
use Rattle.tk_search.specs.declared.trials.totals.Totals.{Totals}
use Rattle.tk_search.specs.declared.trials.totals.TrialReport.{TrialReport}

-- the swaps of the kick, which are those that a rewind takes, and of the descent after it are undone
undone_swaps : (s0 s1 s2 u0 u2 kick rewind taken swaps : ℕ) → swaps ≡ kick + taken → s1 ≡ saturated (s0 + kick) →
    s1 ≡ saturated (s0 + rewind) → s2 ≡ saturated (s1 + taken) → u2 ≡ saturated (u0 + (rewind + taken)) → u2 ≤ s2 →
    s2 < 2 ^ 64 - 1 → u2 ≡ u0 + swaps
undone_swaps s0 s1 s2 u0 u2 kick rewind taken swaps all by_kick by_rewind by_descent undone le lt = omega arith

-- From the state `s` before a descent, whose best tour is that of the totals, to the state `t`. A kick that took `kick`
-- swaps came before the descent; `kick` is 0 if there was none.
pub settles : {S : Type 0} {u : undo.Ghosts S} {w : Ghosts S} (n flips swaps kick made taken : ℕ) (old : Totals)
    (s t : State S u w) (report : TrialReport) → EndsTrial made taken s t report → AreCountsOf t.totals t.tour t.best →
    length (best_of s.best) ≡ n → slots_of s.tour ≡ n → flips ≡ flips_since s.tour + made → swaps ≡ kick + taken →
    swaps_of s.tour ≡ saturated (old.swaps + kick) → swaps_of s.tour ≡ saturated (old.swaps + swaps_to_rewind s.tour) →
    old.undo_swaps ≡ undo_swaps_of s.tour → old.copied ≡ all_copied s →
    (t.totals.swaps < 2 ^ 64) × (t.totals.copied < 2 ^ 65) →
    SettlesTrial n flips swaps old t.totals report
settles n flips swaps kick made taken old s t report h counts size slots all_flips all_swaps kicked rewind undo copied
    small = record {
      counted = omega (arith, counts.swaps, h.swaps_are, kicked, all_swaps);
      taken = λ e. rw (counts.undo_swaps, counts.copied, undo, copied, ← size) (h.taken e);
      undone = λ e room.
          let k = h.undone e (omega (arith, room, slots, all_flips)) in (
            λ few.
                let x = undone_swaps old.swaps (swaps_of s.tour) (swaps_of t.tour) (undo_swaps_of s.tour)
                (undo_swaps_of t.tour) kick (swaps_to_rewind s.tour) taken swaps all_swaps kicked rewind h.swaps_are k.0
                (omega (arith, counts.undone, counts.swaps, counts.undo_swaps)) (omega (arith, counts.swaps, few)) in
                omega (arith, x, counts.undo_swaps, undo),
            omega (arith, counts.copied, k.1, copied),
          );
      restored = λ e many. rw (counts.undo_swaps, counts.copied, undo, copied, ← size)
          (h.restored e (omega (arith, many, slots, all_flips)));
      limits = (small.0, counts.undone, small.1);
    }
