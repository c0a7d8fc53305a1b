use Rattle.std.proofs.Common.{◌≡◌, take, None}
use Rattle.tk_descent.specs.Offers.{Searched}
use Rattle.tk_descent.proofs.gains.Gains.find_in.Given as goal

abbrev pub invariant-loop-offer : goal.invariant-loop-offer
invariant-loop-offer g l = record {
  searched : Searched (g.Self.Gains.distance l.fn.self)
      (g.R.Rule.allowed l.rule (g.S.TourStore.cities l.tour)) (take l.offer-index l.offers) None
      (g.Self.Gains.test_count l.fn.self) (g.Self.Gains.test_count l.self);
  table : g.Self.Gains.distance l.self ≡ g.Self.Gains.distance l.fn.self;
  range : g.Self.Gains.size_of l.self ≡ g.Self.Gains.size_of l.fn.self;
}
