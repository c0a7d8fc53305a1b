use Rattle.std.proofs.Common.{◌≡◌, ◌<◌, ◌≤◌, ℕ, List, length, arith, sym, ap, ◌∙◌, subst, Vec, Global}
use Rattle.std.specs.List.{All}
use Rattle.tk_lists.specs.Solution.{lists_of}
use Rattle.tk_near.specs.Keeping.{insert_by}
use Rattle.tk_rings.specs.RingRoutes.{first_of}
use Rattle.tk_rings.proofs.InsertedRoutes.{first_is, filled_at, goes_after, goes_before, goes_last}
use Rattle.tk_rings.proofs.reading.place.Goals as goal

sized : {now old : List (Vec ℕ Global)} → now ≡ old → length now ≡ length old
sized e = ap (λ (v : List (Vec ℕ Global)). length v) e

filled_now : (now old : List (Vec ℕ Global)) → now ≡ old → All (λ (r : List ℕ). 1 ≤ length r) (lists_of old) →
    All (λ (r : List ℕ). 1 ≤ length r) (lists_of now)
filled_now now old e h = subst (λ (v : List (Vec ℕ Global)). All (λ (r : List ℕ). 1 ≤ length r) (lists_of v)) (sym e) h

pub index-requires-in-loop-k-2 : goal.index-requires-in-loop-k-2
index-requires-in-loop-k-2 c =
    let some = filled_at c.loop-k.routes.items c.args.route c.loop-k.k
    (omega (arith, c.loop-k-test.true, c.len-k-end.ensures, sized c.loop-k.invariant.same))
    c.index-in-loop-k.result.now c.index-in-loop-k.ensures
    (filled_now _ _ c.loop-k.invariant.same c.requires.each) in
    omega (arith, some, c.index-in-loop-k.result.now.ok.0)

pub loop-k-preserved : goal.loop-k-preserved
loop-k-preserved c =
    let lt : c.loop-k.k < length c.loop-k.routes.items =
    omega (arith, c.loop-k-test.true, c.len-k-end.ensures, sized c.loop-k.invariant.same) in
    let other : Vec ℕ Global = c.index-in-loop-k.result.now in
    let some = filled_at c.loop-k.routes.items c.args.route c.loop-k.k lt other c.index-in-loop-k.ensures
    (filled_now _ _ c.loop-k.invariant.same c.requires.each) in
    let mine = first_is c.args.route.items c.index.result.now (omega (arith, c.requires.some)) c.index.ensures in
    let theirs = first_is other.items c.index-in-loop-k-2.result.now some c.index-in-loop-k-2.ensures in
    record {
      same = c.loop-k.invariant.same;
      placed = c.loop-k.invariant.placed
          ∙ goes_after c.loop-k.routes.items c.args.route c.loop-k.k lt other c.index-in-loop-k.ensures
          (omega (arith, mine, theirs, c.if-index.false));
    }

pub returns-then-index : goal.returns-then-index
returns-then-index c =
    let lt : c.loop-k.k < length c.loop-k.routes.items =
    omega (arith, c.loop-k-test.true, c.len-k-end.ensures, sized c.loop-k.invariant.same) in
    let other : Vec ℕ Global = c.index-in-loop-k.result.now in
    let some = filled_at c.loop-k.routes.items c.args.route c.loop-k.k lt other c.index-in-loop-k.ensures
    (filled_now _ _ c.loop-k.invariant.same c.requires.each) in
    let mine = first_is c.args.route.items c.index.result.now (omega (arith, c.requires.some)) c.index.ensures in
    let theirs = first_is other.items c.index-in-loop-k-2.result.now some c.index-in-loop-k-2.ensures in
    ap lists_of c.in_ok-insert.ensures.items
    ∙ goes_before c.loop-k.routes.items c.args.route c.loop-k.k lt other c.index-in-loop-k.ensures
    (omega (arith, mine, theirs, c.if-index.true))
    ∙ sym c.loop-k.invariant.placed
    ∙ ap (λ (v : List (Vec ℕ Global)). insert_by first_of c.args.route.items (lists_of v)) c.loop-k.invariant.same

pub returns : goal.returns
returns c =
    ap lists_of c.in_ok-push.ensures.items
    ∙ goes_last c.loop-k.routes.items c.args.route c.loop-k.k
    (omega (arith, c.loop-k-test.false, c.len-k-end.ensures, sized c.loop-k.invariant.same))
    ∙ sym c.loop-k.invariant.placed
    ∙ ap (λ (v : List (Vec ℕ Global)). insert_by first_of c.args.route.items (lists_of v)) c.loop-k.invariant.same
