use Rattle.std.proofs.Common.{◌≡◌, ◌+◌, ◌-◌, ◌/◌, ℕ, arith, rules, subst, sym}
use Rattle.tk_tour.specs.Moves.{BeginsInside}
use Rattle.tk_tour.proofs.StoredTours.Sides.{IsFlipped, flipped}
use Rattle.tk_tour.proofs.stores.array.ArrayTourTourStore.flip.Goals as goal
use Rattle.tk_tour.proofs.stores.array.ArrayTourTourStore.flip.Goals.{After-reverse}

-- the order is flipped
order_flipped : (c : After-reverse) →
    IsFlipped c.args.self.now.order.items c.reverse.new.self.order.items c.shorter_side-first.result.0
    c.shorter_side-first.result.1 c.args.a c.args.b c.args.c c.args.d
order_flipped c =
    flipped _ _ _ _ _ _ _ _ c.args.self.now.tour c.requires c.shorter_side-first.ensures.side c.reverse.ensures.order

pub returns-clause-steps : goal.returns-clause-steps
returns-clause-steps c = (order_flipped (goal.at.returns-clause-steps c).After-reverse).steps

pub returns-clause-made : goal.returns-clause-made
returns-clause-made c = (order_flipped (goal.at.returns-clause-made c).After-reverse).made

pub returns-clause-places : goal.returns-clause-places
returns-clause-places c = (order_flipped (goal.at.returns-clause-places c).After-reverse).places

pub returns-clause-undone : goal.returns-clause-undone
returns-clause-undone c = (order_flipped (goal.at.returns-clause-undone c).After-reverse).undone

pub returns-clause-inner : goal.returns-clause-inner
returns-clause-inner c = λ equal.
    let first = c.shorter_side-first.result.0 in
    let from : first + 1 - 1 ≡ first = omega arith in
    let P : ℕ → Type 0 = λ u. BeginsInside c.args.self.now.order.items u c.args.a c.args.b c.args.c in
    subst P (sym from) (c.shorter_side-first.ensures.inner equal)

pub returns-clause-size : goal.returns-clause-size
returns-clause-size c = (order_flipped (goal.at.returns-clause-size c).After-reverse).size

pub returns-clause-kept : goal.returns-clause-kept
returns-clause-kept c =
    record {
      flips = 1;
      swaps = c.shorter_side-first.result.1 / 2;
      reversed = (order_flipped (goal.at.returns-clause-kept c).After-reverse).reversed;
      flips_are = search rules;
      swaps_are = search rules;
      undo_swaps = c.reverse.ensures.counts.1;
      copied = c.reverse.ensures.counts.3;
    }
