use Rattle.std.proofs.Common.{◌≡◌, ◌<◌, ◌∙◌, Some, inl, inr, length, slice_get, sym, subst, ap, refl}
use Rattle.tk_problem.specs.WeightLines.{place_on}
use Rattle.tk_problem.specs.WeightOrder.{place}
use Rattle.tk_problem.proofs.WeightLines.{first_left}
use Rattle.tk_problem.proofs.weight_order.WeightCursor.place.Goals as goal

pub returns-in-UpperCol : goal.returns-in-UpperCol
returns-in-UpperCol c =
    let s = c.self.inside in
    let more = subst (λ ps. 0 < length ps) (sym c.self.view_is) c.requires in
    let here : place_on s.format s.line s.item ≡ place s.item s.line = elim c.in-UpperCol.is [
      | inl e ↦ rw e refl
      | inr (inl e) ↦ rw e refl
      | inr (inr (inl e)) ↦ rw e refl
      | inr (inr (inr e)) ↦ rw e refl
    ] in
    ap (λ ps. slice_get ps 0) (sym c.self.view_is)
    ∙ first_left s.format s.n s.line s.item s.end c.self.invariant.3 more
    ∙ ap Some here
