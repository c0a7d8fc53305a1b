use Rattle.std.proofs.Common.{◌≡◌, ◌<◌, ◌+◌, length, refl, arith}
use Rattle.tk_tour.proofs.StoredTours.Reversing.{Mirroring-all, Reversing-more}
use Rattle.tk_tour.proofs.stores.reversal.reverse_places.Goals as goal
use Rattle.tk_tour.proofs.stores.reversal.reverse_places.Goals.{then-high-eq0, else-high-eq0, then-low-n, else-low-n}

pub loop-done-preserved : goal.loop-done-preserved
loop-done-preserved c =
    let h = c.loop-done in
    let down : (h.high ≡ 0 → c.if-high-eq0.high + 1 ≡ length c.args.order.now)
    × (0 < h.high → c.if-high-eq0.high + 1 ≡ h.high) =
    elim c.if-high-eq0.branch [
      | then-high-eq0 w ↦ omega (arith, c.requires.first_in)
      | else-high-eq0 w ↦ omega arith
    ] in
    let up : (h.low + 1 ≡ length c.args.order.now → c.if-low-n.low ≡ 0)
    × (h.low + 1 < length c.args.order.now → c.if-low-n.low ≡ h.low + 1) =
    elim c.if-low-n.branch [ then-low-n w ↦ omega arith | else-low-n w ↦ omega arith ] in
    Reversing-more _ _ _ _ _ _ _ _ _ _ _ _ _ h.invariant c.requires.first_in c.requires.count_in c.loop-done-test.true
    down up refl refl

pub returns-clause-reversed : goal.returns-clause-reversed
returns-clause-reversed c =
    let h = c.loop-done in
    Mirroring-all _ _ _ h.done h.low h.high _ _ h.invariant.mirroring c.requires.first_in c.requires.count_in
    (omega arith)
