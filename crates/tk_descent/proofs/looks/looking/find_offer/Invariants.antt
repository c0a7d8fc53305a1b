use Rattle.std.proofs.Common.{◌≡◌, take, flat_map, None, All}
use Rattle.tk_descent.specs.Offers.{Searched, offers_between}
use Rattle.tk_descent.specs.EdgeCache.{AreMeasured, IsCached}
use Rattle.tk_descent.proofs.looks.looking.find_offer.Given as goal

abbrev pub invariant-loop-k : goal.invariant-loop-k
invariant-loop-k g l =
    let C = g.S.TourStore.cities l.tour in
    record {
      searched : Searched (g.M.Metric.distance l.metric) (g.R.Rule.allowed l.rule C)
          (flat_map (offers_between C l.or_segment l.city) (take l.k l.list)) None 0 l.tests;
      kept : l.count ≡ l.fn.count;
      known : AreMeasured (g.M.Metric.distance l.metric) l.steps;
      cached : All (IsCached (g.M.Metric.distance l.metric)) l.candidates;
    }
