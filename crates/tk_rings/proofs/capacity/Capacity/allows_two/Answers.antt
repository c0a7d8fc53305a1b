use Rattle.std.proofs.Common.{sym, ◌∙◌, ap, eqb}
use Rattle.tk_descent.proofs.MovesOnTours.Rounds.{round_of}
use Rattle.tk_rings.specs.LoadedRings.{cities_in, demands_in}
use Rattle.tk_rings.specs.Rings.{turned}
use Rattle.tk_rings.proofs.AllowedOffers.{two_paths}
use Rattle.tk_rings.proofs.MeetingRoutes.{first_of, second_of, two_meet}
use Rattle.tk_rings.proofs.DepotWalks.{loads_back, view_loads}
use Rattle.tk_rings.proofs.capacity.Capacity.allows_two.Goals as goal

pub returns-then-fits_between : goal.returns-then-fits_between
returns-then-fits_between g c =
    let q = c.args.self.now.capacity in
    let demands = demands_in c.args.tour.now in
    let C = cities_in c.args.tour.now in
    let p = two_paths q demands C (round_of C (g.met.S.TourStore.is_tour c.args.tour.now.ring.tour)).distinct
    c.requires.fits
    c.args.a c.args.b c.args.c c.args.d _ c.requires.on_tour (ap (λ z. eqb z c.args.b) c.next.ensures) in
    let one = c.fits_between.ensures (turned p.kept) (turned p.reversed)
    (loads_back q demands C _ p.kept p.has_kept c.back.result c.back.ensures)
    (loads_back q demands C _ p.reversed p.has_reversed c.back-2.result c.back-2.ensures) in
    let two = c.fits_between-then-fits_between.ensures p.reversed p.kept p.has_reversed p.has_kept in
    two
    ∙ second_of _ _ _ (sym one ∙ c.if-fits_between.true)
    (two_meet q (view_loads q demands C _ p.kept p.has_kept) (view_loads q demands C _ p.reversed p.has_reversed)
    p.before)
    ∙ p.after

pub returns-else-fits_between : goal.returns-else-fits_between
returns-else-fits_between g c =
    let q = c.args.self.now.capacity in
    let demands = demands_in c.args.tour.now in
    let C = cities_in c.args.tour.now in
    let p = two_paths q demands C (round_of C (g.met.S.TourStore.is_tour c.args.tour.now.ring.tour)).distinct
    c.requires.fits
    c.args.a c.args.b c.args.c c.args.d _ c.requires.on_tour (ap (λ z. eqb z c.args.b) c.next.ensures) in
    let one = c.fits_between.ensures (turned p.kept) (turned p.reversed)
    (loads_back q demands C _ p.kept p.has_kept c.back.result c.back.ensures)
    (loads_back q demands C _ p.reversed p.has_reversed c.back-2.result c.back-2.ensures) in
    one
    ∙ first_of _ _ _ (sym one ∙ c.if-fits_between.false)
    (two_meet q (view_loads q demands C _ p.kept p.has_kept) (view_loads q demands C _ p.reversed p.has_reversed)
    p.before)
    ∙ p.after
