use Rattle.std.proofs.Common.{◌≡◌, ◌+◌, ◌-◌, ◌++◌, take, drop, ap, ◌∙◌, subst, arith}
use Rattle.tk_tour.proofs.StoredTours.Renumbering.{Renumbering, Renumbering-more, Renumbering-all}
use Rattle.tk_tour.proofs.StoredTours.TurnedWithin.{turned_within, turned_within-is, Renumbering-begin}
use Rattle.tk_tour.proofs.stores.reversal.reverse_within.Goals as goal

pub loop-k-init : goal.loop-k-init
loop-k-init c =
    let first = c.args.first in
    let count = c.args.last - first in
    let xs = c.args.order.now in
    let to : first + count ≡ c.args.last = omega arith in
    rw (c.reverse.ensures.after)
    (subst (λ l. Renumbering (turned_within first count xs) c.args.place.now first l) to
    (Renumbering-begin first count xs c.args.place.now (omega arith) c.requires.places))

pub loop-k-preserved : goal.loop-k-preserved
loop-k-preserved c = Renumbering-more _ c.loop-k.place c.loop-k.k c.args.last c.loop-k.invariant (omega arith)

pub returns-clause-reversed : goal.returns-clause-reversed
returns-clause-reversed c =
    let first = c.args.first in
    let count = c.args.last - first in
    let xs = c.args.order.now in
    ap (λ v. take first xs ++ (v ++ drop count (drop first xs))) c.reverse.ensures.after
    ∙ turned_within-is first count xs (omega arith)

pub returns-clause-places : goal.returns-clause-places
returns-clause-places c = Renumbering-all _ c.loop-k.place c.loop-k.k c.args.last c.loop-k.invariant c.loop-k-test.false
