use Rattle.std.proofs.Common.{◌-◌, arith}
use Rattle.tk_rings.specs.LoadedRings.{cities_in, demands_in}
use Rattle.tk_tour.specs.JournalTours.{cities_of}
use Rattle.tk_rings.proofs.SumsReversed.{beside_any, beside_reversed}
use Rattle.tk_rings.proofs.loaded.LoadedRingTourStore.flip.Goals as goal

pub fill-requires-clause-beside : goal.fill-requires-clause-beside
fill-requires-clause-beside g c =
    let me = c.args.self.now in
    beside_reversed (demands_in me) (cities_in me) (cities_of c.flip-flip.new.self) me.sums me.along
    (c.flip-flip.result.first - 1) c.flip-flip.result.count c.flip-flip.ensures.places
    (omega (arith, c.if-to-n.true, c.size-n.ensures))

pub fill-requires-else-to-n-clause-beside : goal.fill-requires-else-to-n-clause-beside
fill-requires-else-to-n-clause-beside g c =
    let me = c.args.self.now in
    beside_any (demands_in me) (cities_in me) (cities_of c.flip-flip.new.self) c.size-n.result me.sums me.along
    c.size-n.ensures c.flip-flip.ensures.size
