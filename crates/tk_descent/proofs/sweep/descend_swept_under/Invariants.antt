use Rattle.std.proofs.Common.{◌≡◌, ℕ, ◌+◌, ◌-◌, ◌*◌, ◌≤◌, [], length}
use Rattle.tk_near.specs.Near.{near_of}
use Rattle.tk_tour.specs.Counters.{saturated}
use Rattle.tk_tour.specs.Tour.{tour_length}
use Rattle.tk_descent.specs.Descents.{IsReported, stand}
use Rattle.tk_descent.specs.Sweeps.{MovingUnder}
use Rattle.tk_descent.proofs.sweep.descend_swept_under.Given as goal

abbrev pub invariant-sweeping : goal.invariant-sweeping
invariant-sweeping g l =
    let dist = g.G.Gains.distance l.fn.gains in
    let T = g.S.TourStore.cities l.fn.tour in
    let C = g.S.TourStore.cities l.tour in
    record {
      chain : (tests : ℕ) × MovingUnder (g.R.Rule.allowed l.rule) dist (near_of l.near) l.or_segment T C l.passes
          l.looks l.moves tests
          × (g.G.Gains.test_count l.gains ≡ saturated (g.G.Gains.test_count l.fn.gains + tests));
      fitting : g.R.Rule.Fits l.rule C;
      table : g.G.Gains.distance l.gains ≡ dist;
      range : g.G.Gains.size_of l.gains ≡ length T;
      size : length C ≡ length T;
      awake : l.waking.size ≡ length T;
      none : l.waking.queue ≡ [];
      passed : l.passes ≤ l.moves;
      reported : IsReported (record { distance = dist; near = l.near; or_segment = l.or_segment })
          (stand g.S.TourStore l.fn.tour l.fn.waking (g.G.Gains.test_count l.fn.gains))
          (stand g.S.TourStore l.tour l.waking (g.G.Gains.test_count l.gains)) (length T * l.passes) (record {
            before = l.before;
            after = l.after;
            moves = l.moves;
            looks = l.looks;
            tests = g.G.Gains.test_count l.gains - g.G.Gains.test_count l.fn.gains;
            swaps = g.S.TourStore.swap_count l.tour - g.S.TourStore.swap_count l.fn.tour;
          });
      kept : g.S.TourStore.FlipsOnly l.fn.tour l.tour;
    }

abbrev pub decreases-sweeping : goal.decreases-sweeping
decreases-sweeping g l = tour_length (g.G.Gains.distance l.gains) (g.S.TourStore.cities l.tour)
