use Rattle.std.proofs.Common.{◌≡◌, ℕ, ◌+◌, ◌*◌, ◌/◌, ◌≤◌, pos, length}
use Rattle.tk_near.specs.Near.{near_of}
use Rattle.tk_tour.specs.Counters.{saturated}
use Rattle.tk_tour.specs.Tour.{tour_length}
use Rattle.tk_descent.specs.Machine.{ExecutionUnder}
use Rattle.tk_descent.proofs.descent.descend_under.Given as goal

abbrev pub invariant-loop-x : goal.invariant-loop-x
invariant-loop-x g l =
    let dist = g.G.Gains.distance l.fn.gains in
    let T = g.S.TourStore.cities l.fn.tour in
    let C = g.S.TourStore.cities l.tour in
    record {
      run : (tests : ℕ) × ExecutionUnder (g.R.Rule.allowed l.rule) dist (near_of l.near) l.or_segment T
          l.fn.waking.queue C
          l.waking.queue l.looks l.moves tests
          × (g.G.Gains.test_count l.gains ≡ saturated (g.G.Gains.test_count l.fn.gains + tests));
      tour : g.R.Rule.Fits l.rule C;
      table : g.G.Gains.distance l.gains ≡ dist;
      range : g.G.Gains.size_of l.gains ≡ length T;
      size : length C ≡ length T;
      awake : l.waking.size ≡ length T;
      after : l.after ≡ pos (tour_length dist C);
      gained : l.moves + tour_length dist C ≤ tour_length dist T;
      looked : l.looks + length l.waking.queue ≤ length l.fn.waking.queue + 6 * l.moves;
      tests : g.G.Gains.test_count l.gains ≤ g.G.Gains.test_count l.fn.gains + 4 * l.or_segment *
          l.near.width * l.looks;
      tests_rise : g.G.Gains.test_count l.fn.gains ≤ g.G.Gains.test_count l.gains;
      swaps_rise : g.S.TourStore.swap_count l.fn.tour ≤ g.S.TourStore.swap_count l.tour;
      swaps : g.S.TourStore.swap_count l.tour ≤ g.S.TourStore.swap_count l.fn.tour + 3 * (length T / 4) * l.moves;
      flips : g.S.TourStore.flip_count l.tour ≤ g.S.TourStore.flip_count l.fn.tour + 3 * l.moves;
      kept : g.S.TourStore.FlipsOnly l.fn.tour l.tour;
    }

abbrev pub decreases-loop-x : goal.decreases-loop-x
decreases-loop-x g l =
    length l.waking.queue + 6 * tour_length (g.G.Gains.distance l.gains) (g.S.TourStore.cities l.tour)
