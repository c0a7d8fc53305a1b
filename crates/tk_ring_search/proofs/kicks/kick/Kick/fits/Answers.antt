use Rattle.std.proofs.Common.{◌∙◌, ap}
use Rattle.tk_rings.specs.LoadedRings.{cities_in, demands_in}
use Rattle.tk_rings.specs.Rings.{is_closed, join}
use Rattle.tk_ring_search.specs.Kicks.{is_within, kicked}
use Rattle.tk_ring_search.proofs.KickParts.{is_within_by}
use Rattle.tk_ring_search.proofs.kicks.kick.Kick.fits.Goals as goal

pub returns : goal.returns
returns g c =
    let q = c.args.vehicles.now.capacity in
    c.is_closed.ensures
    ∙ ap (is_closed q) (c.join-3.ensures.value
    ∙ ap (λ z. join q z c.stretch-b.result) (c.join-2.ensures.value
    ∙ ap (λ z. join q z c.stretch-c.result) c.join.ensures.value))
    ∙ is_within_by _ _ _ c.requires.kick c.ends.ensures.value q (demands_in c.args.ring.now)
    c.stretch-a.result c.stretch-b.result c.stretch-c.result c.stretch-d.result
    c.stretch-a.ensures.loads c.stretch-b.ensures.loads c.stretch-c.ensures.loads c.stretch-d.ensures.loads
    ∙ ap (λ demands. is_within q demands (kicked c.args.self.now (cities_in c.args.ring.now))) c.requires.suits
