use Rattle.std.proofs.Common.{◌≡◌, ◌-◌, ◌∙◌, ap, arith, length}
use Rattle.std.specs.Prelude.{reverse}
use Rattle.tk_tour.proofs.StoredTours.Canonical.{IsPrintedForm-ahead, IsPrintedForm-back}
use Rattle.tk_tour.proofs.StoredTours.PrintedForm.{one_printed_form}
use Rattle.tk_tour.proofs.stores.array.ArrayTour.canonical.Goals as goal
use Rattle.tk_tour.proofs.stores.array.ArrayTour.canonical.Goals.{then-prev-next, else-prev-next}

pub returns-clause-printed : goal.returns-clause-printed
returns-clause-printed c =
    let s = c.args.self.now in
    let xs = s.order.items in
    let p = c.place_of-first in
    let first = c.if-prev-next.first in
    let copied : c.in_ok-cities.cities.items ≡ xs = c.in_ok-cities.ensures.items ∙ c.deref.ensures.value in
    elim c.if-prev-next.branch [
      | then-prev-next w ↦
          let e : c.if-prev-next.cities.items ≡ reverse xs = ap (λ v. v.items) w.cities-is ∙ w.reverse.ensures.items
          ∙ ap reverse copied in
          let n : w.len.result ≡ length xs = w.len.ensures ∙ w.reverse.ensures.len ∙ c.in_ok-cities.ensures.len
          ∙ ap length c.deref.ensures.value in
          let f : first ≡ length xs - 1 - p.result = omega (arith, w.first-is, n) in
          rw (c.rotate_left.ensures.items, e, f)
          (IsPrintedForm-back xs p.result s.tour p.ensures.within p.ensures.city
          (omega (arith, c.prev.ensures, c.next.ensures, w.if-prev-next.true)))
      | else-prev-next w ↦
          let e : c.if-prev-next.cities.items ≡ xs = ap (λ v. v.items) w.cities-is ∙ copied in
          let f : first ≡ p.result = w.first-is in
          rw (c.rotate_left.ensures.items, e, f)
          (IsPrintedForm-ahead xs p.result s.tour p.ensures.within p.ensures.city
          (omega (arith, c.prev.ensures, c.next.ensures, w.if-prev-next.false)))
    ]

pub returns-clause-only : goal.returns-clause-only
returns-clause-only c = λ list h. one_printed_form c.args.self.now.order.items list _ c.args.self.now.tour h
    (returns-clause-printed c)
