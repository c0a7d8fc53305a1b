use Rattle.std.proofs.Common.{◌≡◌, ◌∙◌, inr, sym}
use Rattle.tk_tour.specs.Tour.{next_city}
use Rattle.tk_tour.proofs.StoredTours.Flips.{only_backward}
use Rattle.tk_tour.proofs.StoredTours.Sides.{AreForward-backward, TurnsShorterSide-backward}
use Rattle.tk_tour.proofs.sides.shorter_side.Goals as goal
use Rattle.tk_tour.proofs.sides.shorter_side.Goals.{else-city_after-b-via-then-city_after-b+else-city_after-d}
use Rattle.tk_tour.proofs.sides.shorter_side.Goals.{else-city_after-b-via-else-city_after-b}

pub side_ahead-requires-else-city_after-b : goal.side_ahead-requires-else-city_after-b
side_ahead-requires-else-city_after-b g c =
    let cities = g.S.Positions.cities c.args.tour.now in
    let not_ahead : c.args.b ≡ next_city cities c.args.a → c.args.d ≡ next_city cities c.args.c → ⊥ = λ e f.
    elim c.else-city_after-b.branch [
      | else-city_after-b-via-then-city_after-b+else-city_after-d w ↦ w.if-city_after-d.false
          (w.city_after-then-city_after-b.ensures ∙ sym f)
      | else-city_after-b-via-else-city_after-b w ↦ w.if-city_after-b.false (c.city_after.ensures
          ∙ sym e)
    ] in
    AreForward-backward cities _ _ _ _ (g.met.S.Positions.is_tour c.args.tour.now).2 c.requires not_ahead

pub returns-else-city_after-b-clause-side : goal.returns-else-city_after-b-clause-side
returns-else-city_after-b-clause-side g c =
    TurnsShorterSide-backward _ _ _ _ _ _ _ c.side_ahead-else-city_after-b.ensures.side

pub returns-else-city_after-b-clause-inner : goal.returns-else-city_after-b-clause-inner
returns-else-city_after-b-clause-inner g c = λ equal.
    let cities = g.S.Positions.cities c.args.tour.now in
    let not_ahead : c.args.b ≡ next_city cities c.args.a → c.args.d ≡ next_city cities c.args.c → ⊥ = λ e f.
    elim c.else-city_after-b.branch [
      | else-city_after-b-via-then-city_after-b+else-city_after-d w ↦ w.if-city_after-d.false
          (w.city_after-then-city_after-b.ensures ∙ sym f)
      | else-city_after-b-via-else-city_after-b w ↦ w.if-city_after-b.false (c.city_after.ensures
          ∙ sym e)
    ] in
    inr ((only_backward cities _ _ _ _ c.requires not_ahead).0, c.side_ahead-else-city_after-b.ensures.inner equal)
