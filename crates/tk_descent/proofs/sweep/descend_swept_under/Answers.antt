use Rattle.std.proofs.Common.{arith, rules, refl, sym, ◌∙◌, ap, subst, ◌≡◌, ◌≤◌, ◌+◌, ◌*◌, length}
use Rattle.std.proofs.lemmas.Int.{ints}
use Rattle.tk_near.specs.Near.{near_of}
use Rattle.tk_tour.specs.Counters.{saturated}
use Rattle.tk_tour.specs.Tour.{tour_length, IsTour}
use Rattle.tk_descent.specs.Awake.{one_to}
use Rattle.tk_descent.specs.Sweeps.{MovingUnder, PassUnder}
use Rattle.tk_descent.specs.Sweeps.MovingUnder.{start, pass}
use Rattle.tk_descent.proofs.MovesOnTours.Paths.{IsTable}
use Rattle.tk_descent.proofs.MovesOnTours.Rounds.{round_of}
use Rattle.tk_descent.proofs.WakeExecutions.WokenQueue.{one_to-length}
use Rattle.tk_descent.proofs.WakeExecutions.Passes.{all_awake, pass_of, pass_optimum, after_bits, swept}
use Rattle.tk_descent.proofs.WakeExecutions.Passes.{count_pass, fresh_sweep, IsReported-more, IsReported-by}
use Rattle.tk_descent.proofs.sweep.descend_swept_under.Given.{Over}
use Rattle.tk_descent.proofs.sweep.descend_swept_under.Goals as goal

-- the laws of the distances
laws : (g : Over) (gains : g.row.G.Denot) → IsTable (g.G.Gains.distance gains)
laws g gains = (g.met.G.Gains.symmetric gains, g.met.G.Gains.distance_limit gains)

pub sweeping-init : goal.sweeping-init
sweeping-init g c = record {
  chain = (0, start, omega (arith, g.met.G.Gains.count_limit c.args.gains.now));
  fitting = c.requires.tour;
  table = refl;
  range = c.requires.fits.0;
  size = refl;
  awake = c.put_to_sleep.ensures.size ∙ c.requires.fits.2;
  none = c.put_to_sleep.ensures.queue;
  passed = omega arith;
  reported = record {
    before = search rules;
    after = search rules;
    moves = omega arith;
    looks_most = omega arith;
    tests_most = omega arith;
    tests = refl;
    swaps_most = omega arith;
    swaps = refl;
    flips_most = omega arith;
    rises = (omega arith, omega arith);
  };
  kept = g.met.S.TourStore.flips_none _;
}

pub overflow_add-moves : goal.overflow_add-moves
overflow_add-moves g c =
    let i = c.sweeping.invariant in
    let C = g.S.TourStore.cities c.sweeping.tour in
    let D = g.S.TourStore.cities c.descend_under-pass.new.tour in
    let d = g.G.Gains.distance c.args.gains.now in
    let less : c.descend_under-pass.result.moves + tour_length d D ≤ tour_length d C =
    subst (λ z. c.descend_under-pass.result.moves + tour_length z D ≤ tour_length z C) i.table
    c.descend_under-pass.ensures.descent.reported.moves in
    omega (arith, ints, i.reported.moves, less, c.requires.before)

pub returns-then-pass-eq0-clause-flips_only : goal.returns-then-pass-eq0-clause-flips_only
returns-then-pass-eq0-clause-flips_only g c =
    g.met.S.TourStore.flips_more _ _ _ c.sweeping.invariant.kept c.descend_under-pass.ensures.flips_only

pub sweeping-smaller : goal.sweeping-smaller
sweeping-smaller g c =
    let e = c.descend_under-pass.ensures in
    rw e.table.0 (omega (arith, e.descent.reported.moves, c.if-pass-eq0.false))

pub sweeping-preserved : goal.sweeping-preserved
sweeping-preserved g c =
    let i = c.sweeping.invariant in
    let e = c.descend_under-pass.ensures in
    let run = e.descent.run in
    let d = g.G.Gains.distance c.args.gains.now in
    let may = g.R.Rule.allowed c.args.rule.now in
    let D = g.S.TourStore.cities c.descend_under-pass.new.tour in
    let front : c.wake_all.new.self.queue ≡ one_to (length (g.S.TourStore.cities c.args.tour.now)) =
    all_awake _ c.sweeping.waking.queue c.sweeping.waking.size _ c.wake_all.ensures.queue i.none i.awake in
    record {
      chain = (
        saturated (i.chain.0 + run.0),
        subst (λ z. MovingUnder may d (near_of c.args.near.now) c.args.or_segment
            (g.S.TourStore.cities c.args.tour.now) D (c.sweeping.passes + 1) z
            (c.sweeping.moves + c.descend_under-pass.result.moves) (saturated (i.chain.0 + run.0)))
            (sym c.saturating_add-looks.ensures) (pass i.chain.1
            (pass_of _ (g.G.Gains.distance c.sweeping.gains) _ _ _ _ _ _ _ _ i.table
            (front ∙ ap one_to (sym i.size)) run.1) (omega (arith, c.if-pass-eq0.false))),
        count_pass _ _ _ i.chain.0 run.0 i.chain.2 run.2,
      );
      fitting = e.descent.fitting;
      table = e.table.0 ∙ i.table;
      range = e.table.1 ∙ i.range;
      size = e.sizes.0 ∙ i.size;
      awake = e.sizes.1 ∙ c.wake_all.ensures.size ∙ i.awake;
      none = e.descent.asleep;
      passed = omega (arith, i.passed, c.if-pass-eq0.false);
      reported = IsReported-more {more = length (g.S.TourStore.cities c.args.tour.now)} i.reported
          (IsReported-by i.table (ap length front ∙ one_to-length _) e.descent.reported) i.size (omega arith)
          i.reported.before
          (after_bits d (g.G.Gains.distance c.sweeping.gains) D c.descend_under-pass.result.after
          (laws g c.args.gains.now) i.table
          (omega (arith, e.sizes.0, i.size, c.size-cities.ensures.count, c.size-cities.ensures.limits.1))
          e.descent.reported.after) refl (omega (arith, c.saturating_add-looks.ensures)) refl refl;
      kept = g.met.S.TourStore.flips_more _ _ _ i.kept e.flips_only;
    }

pub returns-then-pass-eq0-clause-stored : goal.returns-then-pass-eq0-clause-stored
returns-then-pass-eq0-clause-stored g c = c.width-candidates.ensures.stored
    ∙ ap (λ z. z * c.args.near.now.width) c.requires.fits.1

pub returns-then-pass-eq0-clause-table : goal.returns-then-pass-eq0-clause-table
returns-then-pass-eq0-clause-table g c =
    let i = c.sweeping.invariant in
    let kept = c.descend_under-pass.ensures.table in
    (kept.0 ∙ i.table, kept.1 ∙ i.range ∙ sym c.requires.fits.0)

pub returns-then-pass-eq0-clause-sizes : goal.returns-then-pass-eq0-clause-sizes
returns-then-pass-eq0-clause-sizes g c =
    let i = c.sweeping.invariant in
    let kept = c.descend_under-pass.ensures.sizes in
    (kept.0 ∙ i.size, kept.1 ∙ c.wake_all.ensures.size ∙ i.awake ∙ sym c.requires.fits.2)

pub returns-then-pass-eq0-clause-sweeping : goal.returns-then-pass-eq0-clause-sweeping
returns-then-pass-eq0-clause-sweeping g c =
    let i = c.sweeping.invariant in
    let e = c.descend_under-pass.ensures in
    let pass = c.descend_under-pass.result in
    let run = e.descent.run in
    let d = g.G.Gains.distance c.args.gains.now in
    let may = g.R.Rule.allowed c.args.rule.now in
    let near = near_of c.args.near.now in
    let m = c.args.or_segment in
    let T = g.S.TourStore.cities c.args.tour.now in
    let n = length T in
    let C = g.S.TourStore.cities c.sweeping.tour in
    let D = g.S.TourStore.cities c.descend_under-pass.new.tour in
    let awake : c.wake_all.new.self.queue ≡ one_to (length C) =
    all_awake _ c.sweeping.waking.queue c.sweeping.waking.size _ c.wake_all.ensures.queue i.none
    (i.awake ∙ sym i.size) in
    let front : length c.wake_all.new.self.queue ≡ n = ap length awake ∙ one_to-length _ ∙ i.size in
    let last : PassUnder may d near m C D pass.looks pass.moves run.0 =
    pass_of _ (g.G.Gains.distance c.sweeping.gains) _ _ _ _ _ _ _ _ i.table awake run.1 in
    let sweeps = swept d near m T C D c.sweeping.passes c.sweeping.looks c.sweeping.moves _ _ _ _ _ _ i.chain.1
    last c.if-pass-eq0.true c.saturating_add-looks.ensures refl in
    let counted = count_pass _ _ _ i.chain.0 run.0 i.chain.2 run.2 in
    record {
      sweeps = (_, sweeps, counted);
      fresh = λ fresh. fresh_sweep d near m T D _ _ _ _ (g.G.Gains.test_count c.args.gains.now)
          (g.G.Gains.test_count c.descend_under-pass.new.gains) _ sweeps counted
          (omega (arith, c.tests-tests.ensures, c.tests.ensures)) fresh;
      optimum = pass_optimum (g.R.Rule.Fits c.args.rule.now) may d near m C D pass.looks pass.moves _
          (g.met.R.Rule.exact c.args.rule.now) (laws g c.args.gains.now) c.requires.most.1
          (round_of _ (g.met.S.TourStore.is_tour c.sweeping.tour)) i.fitting last c.if-pass-eq0.true;
      asleep = search rules;
      tour = subst (λ z. IsTour z D) (e.sizes.0 ∙ i.size) (g.met.S.TourStore.is_tour c.descend_under-pass.new.tour).2;
      fitting = e.descent.fitting;
      passes = search rules;
      reported = IsReported-more i.reported (IsReported-by i.table front e.descent.reported) i.size (omega arith)
          (search rules) (search rules) refl (omega (arith, c.saturating_add-looks.ensures)) (search rules)
          (search rules);
    }
