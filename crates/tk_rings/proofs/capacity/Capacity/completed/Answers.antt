use Rattle.std.proofs.lemmas.Bool.{both_ways}
use Rattle.tk_rings.specs.LoadedRings.{cities_in, demands_in}
use Rattle.tk_rings.specs.Rings.{turned}
use Rattle.tk_rings.proofs.DepotWalks.{loads_back, stretch_is, view_loads}
use Rattle.tk_rings.proofs.capacity.Capacity.completed.Goals as goal

pub returns-clause-value : goal.returns-clause-value
returns-clause-value g c = λ s h fit eh ep.
    let me = c.args.self.now in
    let C = cities_in c.args.tour.now in
    let behind = c.ahead-tail.ensures.load me.capacity (turned s)
    (loads_back me.capacity (demands_in c.args.tour.now) C c.args.walk s h c.back.result c.back.ensures) in
    stretch_is (view_loads me.capacity (demands_in c.args.tour.now) C c.args.walk s h) c.args.parted _ _ fit eh ep
    (λ e. behind.0)
    (λ e. absurd (both_ways c.args.parted e c.if-not-parted.false))
