use Rattle.std.proofs.Common.{◌≡◌, ◌<◌, ◌∙◌, ℕ, ℤ, pos, to_z, of_z, w64, length, get_or, sym, ap, subst}
use Rattle.std.proofs.Common.{arith}
use Rattle.std.proofs.lemmas.Int.{ints}
use Rattle.tk_descent.specs.Offers.{IsSegmentIn}
use Rattle.tk_descent.specs.Sharing.{IsRemovedSegment}
use Rattle.tk_descent.specs.declared.offer.Segment.{Segment}
use Rattle.tk_descent.proofs.OfferLists.Searching.{all_of_five}
use Rattle.tk_descent.proofs.looks.sharing.pieces_of.Given.{Over}
use Rattle.tk_descent.proofs.looks.sharing.pieces_of.Goals as goal
use Rattle.tk_descent.proofs.looks.sharing.pieces_of.Goals.{After-segments_of}

abbrev none : Segment
none = record { before = 0; middle = 0; last = 0; after = 0 }

-- the ends of a longer segment are cities; the distance from x to the city before the segment is the same either way
longer : (g : Over) (c : After-segments_of g) (k p : ℕ) (s : ℤ) → k < 5 →
    (get_or c.segments_of.result k none).before ≡ p →
    s ≡ pos (g.M.Metric.distance c.args.metric.now c.args.x.now.city p) →
    IsSegmentIn (g.M.Metric.size_of c.args.metric.now) (get_or c.segments_of.result k none)
    × (to_z w64 (of_z w64 s)
    ≡ pos (g.M.Metric.distance c.args.metric.now (get_or c.segments_of.result k none).before c.args.x.now.city))
longer g c k p s lt e h =
    let v = c.segments_of.ensures in
    let same = g.met.M.Metric.symmetric c.args.metric.now c.args.x.now.city p in
    let limit = g.met.M.Metric.distance_limit c.args.metric.now p c.args.x.now.city in (
      subst (λ z. IsSegmentIn z (get_or c.segments_of.result k none)) (sym c.requires.size)
          (v.inside k none (omega (arith, ap length v.value))),
      rw e (omega (arith, ints)),
    )

pub measure_longer-requires : goal.measure_longer-requires
measure_longer-requires g c =
    let p = longer g (goal.at.measure_longer-requires g c).After-segments_of 1 _ _ (omega arith)
    (ap (λ ss. (get_or ss 1 none).before) c.segments_of.ensures.value ∙ sym c.requires.before) c.requires.shared.4 in
    record { city = c.requires.shared.0; segment = p.0; begin = p.1; known = c.requires.known }

pub measure_longer-requires-2 : goal.measure_longer-requires-2
measure_longer-requires-2 g c =
    let p = longer g (goal.at.measure_longer-requires-2 g c).After-segments_of 2 _ _ (omega arith)
    (ap (λ ss. (get_or ss 2 none).before) c.segments_of.ensures.value ∙ sym c.requires.after) c.requires.shared.3 in
    record { city = c.requires.shared.0; segment = p.0; begin = p.1; known = c.requires.known }

pub measure_longer-requires-3 : goal.measure_longer-requires-3
measure_longer-requires-3 g c =
    let p = longer g (goal.at.measure_longer-requires-3 g c).After-segments_of 3 _ _ (omega arith)
    (ap (λ ss. (get_or ss 3 none).before) c.segments_of.ensures.value ∙ sym c.requires.before) c.requires.shared.4 in
    record { city = c.requires.shared.0; segment = p.0; begin = p.1; known = c.requires.known }

pub measure_longer-requires-4 : goal.measure_longer-requires-4
measure_longer-requires-4 g c =
    let p = longer g (goal.at.measure_longer-requires-4 g c).After-segments_of 4 _ _ (omega arith)
    (ap (λ ss. (get_or ss 4 none).before) c.segments_of.ensures.value ∙ sym c.requires.after) c.requires.shared.3 in
    record { city = c.requires.shared.0; segment = p.0; begin = p.1; known = c.requires.known }

pub returns-clause-value : goal.returns-clause-value
returns-clause-value g c =
    rw (
      c.measure_piece.ensures.segment,
      c.measure_longer.ensures.segment,
      c.measure_longer-2.ensures.segment,
      c.measure_longer-3.ensures.segment,
      c.measure_longer-4.ensures.segment,
      c.segments_of.ensures.value,
    )

pub returns-clause-shared : goal.returns-clause-shared
returns-clause-shared g c =
    all_of_five (IsRemovedSegment (g.M.Metric.size_of c.args.metric.now) (g.M.Metric.distance c.args.metric.now)
    c.args.x.now.city) _ _ _ _ _ c.measure_piece.ensures.shared c.measure_longer.ensures.shared
    c.measure_longer-2.ensures.shared c.measure_longer-3.ensures.shared c.measure_longer-4.ensures.shared
