use Rattle.std.proofs.Common.{◌≡◌, ◌≤◌, ◌<◌, ⊎_elim, arith, length, ap, rules, ◌∙◌}
use Rattle.std.proofs.lemmas.Bool.{both_ways, cases_lt}
use Rattle.tk_tour.specs.JournalTours.{cities_of, flips_since, slots_of}
use Rattle.tk_rings.specs.LoadedRings.{cities_in, demands_in}
use Rattle.tk_rings.proofs.SumsReversed.{beside_any, length-settled}
use Rattle.tk_rings.proofs.loaded.LoadedRing.rewind.Given.{Over}
use Rattle.tk_rings.proofs.loaded.LoadedRing.rewind.Goals as goal

-- a rewound ring has as many elements as before
same_size : (g : Over) (c : goal.After-fill-arg-3-1 g) →
    length (cities_of c.rewind-is_rewound.new.self) ≡ length (cities_in c.args.self.now)
same_size g c =
    let ring = c.args.self.now.ring in
    let kept : flips_since ring ≤ slots_of ring =
    ⊎_elim (λ (lost : slots_of ring < flips_since ring). absurd (both_ways c.lost.result c.if-lost.false
    (c.lost.ensures.1 lost)))
    (λ (le : flips_since ring ≤ slots_of ring). le) (cases_lt (slots_of ring) (flips_since ring)) in
    ap length (c.rewind-is_rewound.ensures.order (c.rewind-is_rewound.ensures.lost.1 kept)) ∙ length-settled ring

pub fill-requires-clause-range : goal.fill-requires-clause-range
fill-requires-clause-range g c = omega (arith, c.size-n.ensures, same_size g c)

pub fill-requires-clause-beside : goal.fill-requires-clause-beside
fill-requires-clause-beside g c =
    let me = c.args.self.now in
    beside_any (demands_in me) (cities_in me) (cities_of c.rewind-is_rewound.new.self) c.size-n.result me.sums me.along
    c.size-n.ensures (same_size g c)

pub returns-then-lost-clause-lost : goal.returns-then-lost-clause-lost
returns-then-lost-clause-lost = search rules
