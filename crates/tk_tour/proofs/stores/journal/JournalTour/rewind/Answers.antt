use Rattle.std.proofs.Common.{◌≡◌, ◌-◌, ◌++◌, ◌∷◌, [], ap, ◌∙◌, sym, length, arith}
use Rattle.tk_tour.specs.Journal.{undone}
use Rattle.tk_tour.proofs.StoredTours.Places.{length-reversed_places}
use Rattle.tk_tour.proofs.StoredTours.Undoing.{undone_push, swaps_to_undo-push, AreFlipsOf-fewer}
use Rattle.tk_tour.proofs.stores.journal.JournalTour.rewind.Goals as goal

pub loop-flip-preserved : goal.loop-flip-preserved
loop-flip-preserved g c =
    let h = c.loop-flip in
    let f = c.in-Some.flip in
    let rest = c.pop.new.self.items in
    let order = g.S.TourStore.cities h.self.tour in
    let e : h.self.journal.items ≡ rest ++ f ∷ [] = cc in
    let less = swaps_to_undo-push rest h.self.journal.items f e in
    record {
      settled = ap (undone rest) c.undo.ensures.places ∙ sym (undone_push rest f order)
          ∙ ap (λ v. undone v order) (sym e) ∙ h.invariant.settled;
      slots = h.invariant.slots;
      not_lost = omega (arith, h.invariant.not_lost);
      swaps = c.undo.ensures.others.0 ∙ h.invariant.swaps;
      flips = c.undo.ensures.others.1 ∙ h.invariant.flips;
      copied = c.undo.ensures.others.2 ∙ h.invariant.copied;
      undo_swaps = omega (arith, less, c.undo.ensures.undo_swaps, h.invariant.undo_swaps);
    }

pub invariant_of-self-clause-undoes_its_own : goal.invariant_of-self-clause-undoes_its_own
invariant_of-self-clause-undoes_its_own g c =
    let h = c.loop-flip in
    let f = c.in-Some.flip in
    let rest = c.pop.new.self.items in
    let e : h.self.journal.items ≡ rest ++ f ∷ [] = cc in
    omega (
      arith,
      swaps_to_undo-push rest h.self.journal.items f e,
      c.undo.ensures.undo_swaps,
      c.undo.ensures.others,
      h.self.undoes_its_own,
    )

pub invariant_of-self-clause-in_range : goal.invariant_of-self-clause-in_range
invariant_of-self-clause-in_range g c =
    let h = c.loop-flip in
    let f = c.in-Some.flip in
    let rest = c.pop.new.self.items in
    let order = g.S.TourStore.cities h.self.tour in
    let e : h.self.journal.items ≡ rest ++ f ∷ [] = cc in
    let n : length (g.S.TourStore.cities c.undo.new.self) ≡ length order = ap length c.undo.ensures.places
    ∙ length-reversed_places (f.first - 1) f.count order in
    rw n (AreFlipsOf-fewer (length order) rest h.self.journal.items f e h.self.in_range)
