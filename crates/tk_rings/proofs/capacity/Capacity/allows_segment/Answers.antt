use Rattle.std.proofs.Common.{arith, ap, ◌∙◌}
use Rattle.std.proofs.lemmas.Bool.{lt-leb}
use Rattle.tk_rings.specs.LoadedRings.{cities_in, demands_in}
use Rattle.tk_rings.specs.Rings.{is_closed, join, turned}
use Rattle.tk_rings.proofs.MeetingRoutes.{whole_between, whole_over, parted_meet, all_fit}
use Rattle.tk_rings.proofs.DepotWalks.{loads_back, view_loads}
use Rattle.tk_rings.proofs.capacity.Capacity.allows_segment.Goals as goal

pub returns-then-load-limit : goal.returns-then-load-limit
returns-then-load-limit g c = λ s a r hs ha hr old.
    let me = c.args.self.now in
    let C = cities_in c.args.tour.now in
    let at = c.ahead-load.ensures.load me.capacity s hs in
    c.fits_between.ensures (turned a) r
    (loads_back me.capacity (demands_in c.args.tour.now) C c.args.ahead a ha c.back.result c.back.ensures) hr
    ∙ whole_between me.capacity (view_loads me.capacity (demands_in c.args.tour.now) C c.args.segment s hs)
    (view_loads me.capacity (demands_in c.args.tour.now) C c.args.ahead a ha)
    (view_loads me.capacity (demands_in c.args.tour.now) C c.args.rest r hr) c.ahead-load.result.0
    (at.1 ∙ c.if-not-parted.true) at.0 old c.if-load-limit.true

pub returns-else-load-limit : goal.returns-else-load-limit
returns-else-load-limit g c = λ s a r hs ha hr old.
    let me = c.args.self.now in
    let C = cities_in c.args.tour.now in
    let at = c.ahead-load.ensures.load me.capacity s hs in
    lt-leb _ _ c.if-load-limit.false
    ∙ whole_over me.capacity (view_loads me.capacity (demands_in c.args.tour.now) C c.args.segment s hs)
    (view_loads me.capacity (demands_in c.args.tour.now) C c.args.ahead a ha)
    (view_loads me.capacity (demands_in c.args.tour.now) C c.args.rest r hr) c.ahead-load.result.0
    (at.1 ∙ c.if-not-parted.true) at.0 old c.if-load-limit.false

pub returns-then-behind-limit : goal.returns-then-behind-limit
returns-then-behind-limit g c = λ s a r hs ha hr old.
    let me = c.args.self.now in
    let C = cities_in c.args.tour.now in
    let at = c.ahead-load.ensures.load me.capacity s hs in
    let behind = c.ahead-behind.ensures.load me.capacity (turned r)
    (loads_back me.capacity (demands_in c.args.tour.now) C c.args.rest r hr c.back-2.result c.back-2.ensures) in
    parted_meet me.capacity (view_loads me.capacity (demands_in c.args.tour.now) C c.args.segment s hs)
    (view_loads me.capacity (demands_in c.args.tour.now) C c.args.ahead a ha)
    (view_loads me.capacity (demands_in c.args.tour.now) C c.args.rest r hr) (at.1 ∙ c.if-not-parted.false)
    (omega (arith, behind.0, c.if-behind-limit.true))

pub returns-then-before-limit : goal.returns-then-before-limit
returns-then-before-limit g c = λ s a r hs ha hr old.
    let me = c.args.self.now in
    let C = cities_in c.args.tour.now in
    let at = c.ahead-load.ensures.load me.capacity s hs in
    let behind = c.ahead-behind.ensures.load me.capacity (turned r)
    (loads_back me.capacity (demands_in c.args.tour.now) C c.args.rest r hr c.back-2.result c.back-2.ensures) in
    let before = c.ahead-before.ensures.load me.capacity a ha in
    parted_meet me.capacity (view_loads me.capacity (demands_in c.args.tour.now) C c.args.segment s hs)
    (view_loads me.capacity (demands_in c.args.tour.now) C c.args.ahead a ha)
    (view_loads me.capacity (demands_in c.args.tour.now) C c.args.rest r hr) (at.1 ∙ c.if-not-parted.false)
    (omega (arith, behind.0, before.0, c.if-behind-limit.false, c.if-before-limit.true))

pub returns : goal.returns
returns g c = λ s a r hs ha hr old.
    let me = c.args.self.now in
    let q = me.capacity in
    let C = cities_in c.args.tour.now in
    let at = c.ahead-load.ensures.load me.capacity s hs in
    let back_rest = loads_back q (demands_in c.args.tour.now) C c.args.rest r hr c.back-2.result c.back-2.ensures in
    let back_again = loads_back q (demands_in c.args.tour.now) C c.args.rest r hr c.back-3.result c.back-3.ensures in
    let behind = c.ahead-behind.ensures.load q (turned r) back_rest in
    let before = c.ahead-before.ensures.load q a ha in
    let fit = all_fit q (view_loads q (demands_in c.args.tour.now) C c.args.segment s hs)
    (view_loads q (demands_in c.args.tour.now) C c.args.ahead a ha) (view_loads q (demands_in c.args.tour.now) C
    c.args.rest r hr) old in
    let middle = c.completed-middle.ensures.value s hs fit.0 at.0 at.1 in
    let front = c.completed-front.ensures.value a ha fit.1 before.0 before.1 in
    let end = c.completed-end.ensures.value (turned r) back_again fit.2 behind.0 behind.1 in
    c.is_closed.ensures
    ∙ ap (is_closed q) (c.join-2.ensures.value
    ∙ ap (λ z. join q z c.turned.result) (c.join.ensures.value ∙ ap (λ z. join q z c.completed-middle.result) front
    ∙ ap (join q a) middle)
    ∙ ap (join q (join q a s)) (c.turned.ensures ∙ ap turned end))
