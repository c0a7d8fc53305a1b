use Rattle.std.proofs.Common.{◌≡◌, ◌+◌, ◌<◌, ◌∙◌, ◌∷◌, ◌++◌, [], ℕ, List, length, take, get_or, sym, ap, arith}
use Rattle.std.specs.List.{flat_map}
use Rattle.std.proofs.lemmas.List.{append_assoc, flat_map_more, take_all, take_more}
use Rattle.tk_descent.specs.Offers.{or_offer, or_offers}
use Rattle.tk_descent.specs.declared.offer.Offer.{Offer}
use Rattle.tk_descent.specs.declared.offer.Segment.{Segment}
use Rattle.tk_descent.proofs.looks.listing.offers_with.Goals as goal

-- the Or-opt offers of one more segment
more_offers : (front old mid new : List Offer) (ss : List Segment) (i x y after before : ℕ) (none : Segment) →
    i < length ss → old ≡ front ++ flat_map (or_offers x y after before) (take i ss) →
    mid ≡ old ++ or_offer x y (get_or ss i none) after → new ≡ mid ++ or_offer x y (get_or ss i none) before →
    new ≡ front ++ flat_map (or_offers x y after before) (take (i + 1) ss)
more_offers front old mid new ss i x y after before none lt e first second =
    let f : Segment → List Offer = or_offers x y after before in
    let s : Segment = get_or ss i none in
    second
    ∙ ap (λ z. z ++ or_offer x y s before) first
    ∙ append_assoc old (or_offer x y s after) (or_offer x y s before)
    ∙ ap (λ z. z ++ f s) e
    ∙ flat_map_more f front (take i ss) s
    ∙ ap (λ z. front ++ flat_map f z) (sym (take_more ss i none lt))

pub loop-segment-preserved : goal.loop-segment-preserved
loop-segment-preserved g c =
    let h = c.loop-segment in
    record {
      offers = more_offers (_ ∷ _ ∷ []) h.offers c.push_or.new.self _ _ h.segment-index _ _ _ _ _
          c.loop-segment-test.true h.invariant.offers c.push_or.ensures.offers c.push_or-in-loop-segment.ensures.offers;
      limit = omega (arith, h.invariant.limit, c.push_or.ensures.limit, c.push_or-in-loop-segment.ensures.limit);
    }

pub returns : goal.returns
returns g c =
    let items : List Segment = take c.segment_count.result c.segments_of-all.result in
    rw (
      c.loop-segment.invariant.offers,
      take_all c.loop-segment.segment-index items (omega (arith, c.loop-segment-test.false)),
      c.segment_count.ensures.value,
      c.size.ensures.count,
      c.segments_of-all.ensures.value,
      c.next-x_after.ensures.value,
      c.prev-x_before.ensures.value,
      c.next-y_after.ensures.value,
      c.prev-y_before.ensures.value,
    )
