use Rattle.std.proofs.Common.{◌≡◌, ◌∙◌, ℕ, List, length, sym, ap, subst, arith}
use Rattle.tk_tour.specs.Reversal.{begun_at}
use Rattle.tk_segments.specs.Segments.{shown}
use Rattle.tk_tour.specs.Tour.{IsTour, IsSizedTour}
use Rattle.std.proofs.Common.{◌++◌, take, drop}
use Rattle.std.proofs.lemmas.Grind.{common_steps}
use Rattle.std.proofs.lemmas.List.{append-nil}
use Rattle.tk_tour.specs.Reversal.{IsInverse}
use Rattle.tk_segments.proofs.SeenTours.Facts.{facts, seen_of}
use Rattle.tk_segments.proofs.seen.SeenTour.rewrite.Goals as goal
use Rattle.tk_segments.proofs.seen.SeenTour.rewrite.Goals.{After-swap}

-- the array becomes the sequence
written : (c : After-swap) → c.swap.new.x.items ≡ seen_of c.args.self.now
written c =
    let s = c.args.self.now in
    let list = c.write_seen.new.list in
    let w : take s.spare.len (list ++ drop (length list) s.spare.items) ≡ list = grind (arith, common_steps) in
    ap (λ v. v.items) c.swap.ensures.x_after ∙ w ∙ c.write_seen.ensures
    ∙ append-nil (shown c.deref.result.now c.deref-2.result.now)
    ∙ ap (λ u. shown u c.deref-2.result.now) c.deref.ensures.value
    ∙ ap (shown s.order.items) c.deref-2.ensures.value

pub place_each-requires-clause-tour : goal.place_each-requires-clause-tour
place_each-requires-clause-tour c =
    let s = c.args.self.now in
    let f = facts s in
    let seen = written (goal.at.place_each-requires-clause-tour c).After-swap in
    let P : List ℕ → Type 0 = λ u. IsTour (length u) u in
    let Q : ℕ → Type 0 = λ u. IsTour u (seen_of s) in
    subst P (sym (c.deref-3.ensures.value ∙ seen)) (subst Q (sym f.seen) f.tour)

pub invariant_of-self-2-clause-tour : goal.invariant_of-self-2-clause-tour
invariant_of-self-2-clause-tour c =
    let s = c.args.self.now in
    let seen = written (goal.at.invariant_of-self-2-clause-tour c).After-swap in
    let P : List ℕ → Type 0 = λ u. IsSizedTour (begun_at s.begin u) in
    subst P (sym (c.reset.ensures.shown c.swap.new.x.items (ap length seen ∙ (facts s).seen) ∙ seen)) s.tour

pub invariant_of-self-2-clause-inverse : goal.invariant_of-self-2-clause-inverse
invariant_of-self-2-clause-inverse c =
    let s = c.args.self.now in
    let place = c.place_each.new.place in
    let e : take s.place.len (place ++ drop (length place) s.place.items) ≡ place = grind (arith, common_steps) in
    let P : List ℕ → Type 0 = λ u. IsInverse u place in
    let Q : List ℕ → Type 0 = λ u. IsInverse c.swap.new.x.items u in
    subst Q (sym e) (subst P c.deref-3.ensures.value c.place_each.ensures)

pub invariant_of-self-2-clause-sizes : goal.invariant_of-self-2-clause-sizes
invariant_of-self-2-clause-sizes c =
    let f = facts c.args.self.now in
    let size = sym c.reset.ensures.limits.0 in (
      ap length (written (goal.at.invariant_of-self-2-clause-sizes c).After-swap) ∙ f.seen ∙ size,
      ap (λ v. length v.items) c.swap.ensures.y_after ∙ f.order ∙ size,
    )

pub returns-clause-list : goal.returns-clause-list
returns-clause-list c = grind (arith, common_steps)
