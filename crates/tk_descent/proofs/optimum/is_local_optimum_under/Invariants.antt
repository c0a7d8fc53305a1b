use Rattle.std.proofs.Common.{◌≡◌, ◌≤◌, ◌<◌, ℕ}
use Rattle.tk_near.specs.Near.{near_of}
use Rattle.tk_descent.specs.WakeMachine.{HasNoOfferUnder}
use Rattle.tk_descent.proofs.optimum.is_local_optimum_under.Given as goal

abbrev pub invariant-loop-x : goal.invariant-loop-x
invariant-loop-x g l = record {
  none : (c : ℕ) → 1 ≤ c → c < l.x →
      HasNoOfferUnder (g.R.Rule.Fits l.rule) (g.M.Metric.distance l.metric) (near_of l.near) l.or_segment c
      (g.S.TourStore.cities l.tour);
  table : g.M.Metric.distance l.gains.metric.now ≡ g.M.Metric.distance l.metric;
  range : g.M.Metric.size_of l.gains.metric.now ≡ g.M.Metric.size_of l.metric;
}
