use Rattle.std.proofs.Common.{refl}
use Rattle.tk_descent.proofs.MovesOnTours.Rounds.{round_of}
use Rattle.tk_rings.specs.LoadedRings.{cities_in, demands_in}
use Rattle.tk_rings.specs.Capacities.{loads_of}
use Rattle.tk_rings.specs.Loads.{HasLoads}
use Rattle.tk_rings.proofs.AllowedOffers.{path_fits}
use Rattle.tk_rings.proofs.capacity.Capacity.stretch.Goals as goal

pub returns-clause-loads : goal.returns-clause-loads
returns-clause-loads g c = λ path rest on ends.
    let me = c.args.self.now in
    let q = me.capacity in
    let demands = (demands_in c.args.tour.now) in
    let C = cities_in c.args.tour.now in
    let h : HasLoads q demands C (record { from = c.args.from; to = c.args.to; forward = c.args.forward })
    (loads_of q demands path) = record { path = path; rest = rest; on = on; ends = ends; loads = refl } in
    let head = c.ahead-head.ensures.load q (loads_of q demands path) h in
    c.completed.ensures.value (loads_of q demands path) h
    (path_fits q demands C (round_of C (g.met.S.TourStore.is_tour c.args.tour.now.ring.tour)).distinct c.requires.fits
    c.args.forward path rest on) head.0 head.1
