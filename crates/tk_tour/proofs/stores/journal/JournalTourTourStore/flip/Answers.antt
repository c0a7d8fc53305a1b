use Rattle.std.proofs.Common.{◌<◌, ◌-◌, ◌/◌, ap, ◌∙◌, refl, arith, length}
use Rattle.tk_tour.specs.Journal.{undone}
use Rattle.tk_tour.specs.ReversalLaws.{AreReversed-one}
use Rattle.tk_tour.proofs.StoredTours.Undoing.{undone_flip, swaps_to_undo-push, swaps_to_undo-remembered}
use Rattle.tk_tour.proofs.StoredTours.Undoing.{AreFlipsOf-remembered}
use Rattle.tk_tour.proofs.stores.journal.JournalTourTourStore.flip.Goals as goal

pub returns-clause-kept : goal.returns-clause-kept
returns-clause-kept g c =
    let s = c.args.self.now in
    let f = c.flip-flip in
    let old = g.S.TourStore.cities s.tour in
    let new = g.S.TourStore.cities f.new.self in
    let r = c.remember in
    let same = g.met.S.UndoStore.flips_keep s.tour f.new.self f.ensures.kept in
    record {
      slots = refl;
      flipped =
          record {
            flips = 1;
            swaps = f.result.count / 2;
            reversed = AreReversed-one old new (f.result.first - 1) f.result.count f.ensures.places
                (omega (arith, f.ensures.first)) f.ensures.shorter;
            flips_are = f.ensures.flips;
            swaps_are = f.ensures.swaps;
            undo_swaps = same.0;
            copied = same.1;
          };
      flips = omega arith;
      settled = λ le.
          let room : s.flips < s.slots = omega arith in
          ap (λ v. undone v new) (r.ensures.recorded room) ∙
          undone_flip s.journal.items f.result old new f.ensures.places (omega (arith, f.ensures.first))
          (omega (arith, f.ensures.shorter));
      swaps = λ le.
          let room : s.flips < s.slots = omega arith in
          swaps_to_undo-push s.journal.items r.new.journal.items f.result (r.ensures.recorded room);
    }

pub invariant_of-self : goal.invariant_of-self
invariant_of-self g c =
    let s = c.args.self.now in
    let f = c.flip-flip in
    let r = c.remember in
    let old = g.S.TourStore.cities s.tour in
    record {
      room = r.ensures.room;
      within = r.ensures.within;
      complete = λ le. omega (arith, r.ensures.complete (omega arith));
      in_range =
          rw f.ensures.size
          (AreFlipsOf-remembered (length old) s.flips s.slots s.journal.items r.new.journal.items f.result s.in_range
          (f.ensures.first.0, f.ensures.first.1, f.ensures.shorter) r.ensures.recorded r.ensures.full);
      undoes_its_own =
          omega (
            arith,
            s.undoes_its_own,
            g.met.S.UndoStore.flips_keep s.tour f.new.self f.ensures.kept,
            f.ensures.swaps,
            swaps_to_undo-remembered s.flips s.slots s.journal.items r.new.journal.items f.result
                r.ensures.recorded r.ensures.full,
          );
      fits = omega arith;
    }
