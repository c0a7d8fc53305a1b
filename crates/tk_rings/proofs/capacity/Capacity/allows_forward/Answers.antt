use Rattle.std.proofs.Common.{sym, ◌∙◌, subst}
use Rattle.tk_descent.proofs.MovesOnTours.Rounds.{round_of}
use Rattle.tk_rings.specs.LoadedRings.{cities_in, demands_in}
use Rattle.tk_rings.specs.Loads.{HasLoads}
use Rattle.tk_rings.proofs.AllowedOffers.{straight_paths, turned_paths}
use Rattle.tk_rings.proofs.capacity.Capacity.allows_forward.Goals as goal

pub returns-then-next-w : goal.returns-then-next-w
returns-then-next-w g c =
    let q = c.args.self.now.capacity in
    let demands = demands_in c.args.tour.now in
    let C = cities_in c.args.tour.now in
    let p = straight_paths q demands C (round_of C (g.met.S.TourStore.is_tour c.args.tour.now.ring.tour)).distinct
    c.requires.fits c.args.a c.args.x c.args.e c.args.b c.args.y c.args.w c.requires.forward c.requires.on_tour
    (sym c.next.ensures ∙ c.if-next-w.true) in
    c.allows_segment.ensures p.s p.a p.r p.has_segment p.has_ahead p.has_rest p.before ∙ p.after

pub returns-else-next-w : goal.returns-else-next-w
returns-else-next-w g c =
    let q = c.args.self.now.capacity in
    let demands = demands_in c.args.tour.now in
    let C = cities_in c.args.tour.now in
    let p = turned_paths q demands C (round_of C (g.met.S.TourStore.is_tour c.args.tour.now.ring.tour)).distinct
    c.requires.fits c.args.a c.args.x c.args.e c.args.b c.args.y c.args.w c.requires.forward c.requires.on_tour
    (λ e. c.if-next-w.false (c.next.ensures ∙ e)) in
    c.allows_segment-else-next-w.ensures p.s p.a p.r
    (subst (λ z. HasLoads q demands C z p.s) (sym c.back.ensures) p.has_segment) p.has_ahead p.has_rest p.before
    ∙ p.after
