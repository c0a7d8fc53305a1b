use Rattle.std.proofs.Common.{◌≡◌, take, flat_map, None}
use Rattle.tk_descent.specs.Offers.{Searched, offers_between}
use Rattle.tk_descent.proofs.gains.Gains.find_offer.Given as goal

abbrev pub invariant-loop-near_city : goal.invariant-loop-near_city
invariant-loop-near_city g l =
    let C = g.S.TourStore.cities l.tour in
    record {
      searched : Searched (g.Self.Gains.distance l.fn.self) (g.R.Rule.allowed l.rule C)
          (flat_map (offers_between C l.or_segment l.city) (take l.near_city-index l.near_city-items)) None
          (g.Self.Gains.test_count l.fn.self) (g.Self.Gains.test_count l.self);
      table : g.Self.Gains.distance l.self ≡ g.Self.Gains.distance l.fn.self;
      range : g.Self.Gains.size_of l.self ≡ g.Self.Gains.size_of l.fn.self;
    }
