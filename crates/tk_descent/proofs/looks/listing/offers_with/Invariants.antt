use Rattle.std.proofs.Common.{◌≡◌, ◌+◌, ◌*◌, ◌≤◌, ◌∷◌, length, take, flat_map}
use Rattle.tk_descent.specs.Offers.{or_offers}
use Rattle.tk_descent.specs.declared.offer.Offer.TheVariants.{Two}
use Rattle.tk_descent.proofs.looks.listing.offers_with.Given as goal

abbrev pub invariant-loop-segment : goal.invariant-loop-segment
invariant-loop-segment g l = record {
  offers : l.offers ≡ Two l.x l.x_after l.y l.y_after ∷ Two l.x l.x_before l.y l.y_before
      ∷ flat_map (or_offers l.x l.y l.y_after l.y_before) (take l.segment-index l.segment-items);
  limit : length l.offers ≤ 2 + 2 * l.segment-index;
}
