use Rattle.std.proofs.Common.{◌≡◌, ◌∙◌, ◌++◌, ℕ, List, length, take, drop, ap, sym, subst, arith}
use Rattle.std.proofs.lemmas.Grind.{common_steps}
use Rattle.std.proofs.lemmas.List.{append-nil}
use Rattle.tk_tour.specs.Reversal.{IsInverse}
use Rattle.tk_tour.specs.Tour.{IsTour, IsSizedTour}
use Rattle.tk_segments.proofs.SeenTours.Facts.{facts}
use Rattle.tk_segments.proofs.seen.SeenTour.take_order.Goals as goal

pub copy_from_slice-requires : goal.copy_from_slice-requires
copy_from_slice-requires c =
    let s = c.args.self.now in
    let f = facts s in
    omega (arith, c.requires.size, f.list, f.order, s.order.ok.0)

pub place_each-requires-clause-tour : goal.place_each-requires-clause-tour
place_each-requires-clause-tour c =
    let P : List ℕ → Type 0 = λ u. IsTour (length u) u in
    subst P (sym (c.deref.ensures.value ∙ c.copy_from_slice.ensures.items)) c.requires.tour.2

pub invariant_of-self-clause-tour : goal.invariant_of-self-clause-tour
invariant_of-self-clause-tour c =
    let s = c.args.self.now in
    let f = facts s in
    let cities = c.args.cities.now in
    let order = c.copy_from_slice.new.self.items in
    let taken : order ≡ cities = c.copy_from_slice.ensures.items in
    let size : length order ≡ s.segments.size = ap length taken ∙ c.requires.size ∙ f.list in
    subst IsSizedTour (sym (append-nil _ ∙ c.reset.ensures.shown order size ∙ taken)) c.requires.tour

pub invariant_of-self-clause-inverse : goal.invariant_of-self-clause-inverse
invariant_of-self-clause-inverse c =
    let s = c.args.self.now in
    let order = c.copy_from_slice.new.self.items in
    let place = c.place_each.new.place in
    let e : take s.place.len (place ++ drop (length place) s.place.items) ≡ place = grind (arith, common_steps) in
    let P : List ℕ → Type 0 = λ u. IsInverse u place in
    let Q : List ℕ → Type 0 = λ u. IsInverse order u in
    subst Q (sym e) (subst P c.deref.ensures.value c.place_each.ensures)

pub invariant_of-self-clause-sizes : goal.invariant_of-self-clause-sizes
invariant_of-self-clause-sizes c =
    let s = c.args.self.now in
    let f = facts s in
    let size : length c.copy_from_slice.new.self.items ≡ s.segments.size = ap length c.copy_from_slice.ensures.items
    ∙ c.requires.size ∙ f.list in
    (size ∙ sym c.reset.ensures.limits.0, s.sizes.1 ∙ sym c.reset.ensures.limits.0)
