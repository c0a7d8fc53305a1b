use Rattle.std.proofs.Common.{◌-◌, true, false}
use Rattle.tk_rings.specs.LoadedRings.{cities_in, demands_in}
use Rattle.tk_rings.proofs.SpannedWalks.{walk_between}
use Rattle.tk_rings.proofs.loaded.LoadedRing.ahead.Goals as goal

pub returns-then-walk-clause-load : goal.returns-then-walk-clause-load
returns-then-walk-clause-load g c = λ q s h.
    let me = c.args.self.now in
    c.ahead_forward.ensures.ahead q s
    (walk_between q (demands_in me) (cities_in me) c.args.walk s (c.position.result - 1) (c.position-2.result - 1) true
    c.position.ensures.city c.position-2.ensures.city c.if-walk.true h)

pub returns-else-walk-clause-load : goal.returns-else-walk-clause-load
returns-else-walk-clause-load g c = λ q s h.
    let me = c.args.self.now in
    c.ahead_backward.ensures.ahead q s
    (walk_between q (demands_in me) (cities_in me) c.args.walk s (c.position.result - 1) (c.position-2.result - 1) false
    c.position.ensures.city c.position-2.ensures.city c.if-walk.false h)
