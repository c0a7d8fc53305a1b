use Rattle.std.proofs.Common.{arith, [], ◌-◌, rules, refl, ◌+◌, ◌*◌, ◌/◌, ◌≤◌, ap, ◌∙◌, length, ◌≡◌, subst, sym, ℕ}
use Rattle.std.proofs.Common.{◌-ℤ◌, w64, to_z, of_z}
use Rattle.std.proofs.lemmas.Int.{to_z-of_z}
use Rattle.std.specs.Int.RustNames.{unsigned_abs}
use Rattle.tk_problem.specs.declared.limits.TheConstants.{CITY_LIMIT}
use Rattle.tk_near.specs.Near.{near_of}
use Rattle.tk_descent.proofs.OfferLists.OnCycle.{more_on, more_made}
use Rattle.tk_tour.specs.Tour.{tour_length, IsTour}
use Rattle.tk_descent.specs.Machine.{ExecutionUnder}
use Rattle.tk_descent.specs.Machine.ExecutionUnder.{start}
use Rattle.tk_descent.proofs.MovesOnTours.Paths.{IsTable}
use Rattle.tk_descent.proofs.MovesOnTours.Rounds.{round_of}
use Rattle.tk_descent.proofs.WakeExecutions.DescentSteps.{run_asleep, run_move, less_move, worth_move, queue_left}
use Rattle.tk_descent.proofs.WakeExecutions.DescentSteps.{fits_length, more_swaps, tests_rise, count_look, few_tests}
use Rattle.tk_descent.proofs.WakeExecutions.DescentSteps.{fresh_count, saved_is, may_made}
use Rattle.tk_descent.proofs.OfferLists.Count.{fewer}
use Rattle.tk_descent.specs.WakeMachine.{WakesUnder}
use Rattle.tk_descent.proofs.WakeExecutions.Machines.{run_wakes}
use Rattle.tk_descent.proofs.descent.descend_under.Given.{Over}
use Rattle.tk_descent.proofs.descent.descend_under.Goals as goal
use mir.Val.{SFits}

-- the laws of the distances
laws : (g : Over) (gains : g.row.G.Denot) → IsTable (g.G.Gains.distance gains)
laws g gains = (g.met.G.Gains.symmetric gains, g.met.G.Gains.distance_limit gains)

pub loop-x-init : goal.loop-x-init
loop-x-init g c = record {
  run = (0, start, omega (arith, g.met.G.Gains.count_limit c.args.gains.now));
  tour = c.requires.tour;
  table = refl;
  range = c.requires.fits.0;
  size = refl;
  awake = c.requires.fits.2;
  after = search rules;
  gained = omega arith;
  looked = omega arith;
  tests = omega arith;
  tests_rise = omega arith;
  swaps_rise = omega arith;
  swaps = omega arith;
  flips = omega arith;
  kept = g.met.S.TourStore.flips_none _;
}

pub overflow_add-looks : goal.overflow_add-looks
overflow_add-looks g c =
    let i = c.loop-x.invariant in
    omega (
      arith,
      i.looked,
      i.gained,
      c.len-awake.ensures.value,
      c.len-awake.ensures.limit,
      c.requires.fits.2,
      c.size-cities.ensures.count,
      c.size-cities.ensures.limits.1,
      fits_length (g.G.Gains.distance c.args.gains.now) (g.S.TourStore.cities c.args.tour.now) (laws g c.args.gains.now)
          (omega (arith, c.size-cities.ensures.count, c.size-cities.ensures.limits.1)),
    )

pub make-requires-clause-offer : goal.make-requires-clause-offer
make-requires-clause-offer g c =
    more_on c.args.or_segment c.in-Some-find_offer.found.offer (g.S.TourStore.cities c.loop-x.tour) c.requires.most.1
    c.in-Some-find_offer.ensures.on_cycle.0

pub overflow_sub-after : goal.overflow_sub-after
overflow_sub-after g c =
    let i = c.loop-x.invariant in
    let d = g.G.Gains.distance c.args.gains.now in
    (worth_move d _ _ c.in-Some-find_offer.found _ _ c.args.or_segment (g.S.TourStore.cities c.loop-x.tour)
    (g.S.TourStore.cities c.make.new.tour) _ (laws g c.args.gains.now) i.table
    c.in-Some-find_offer.ensures.searched
    (c.make.ensures.made c.args.or_segment c.in-Some-find_offer.ensures.on_cycle.0) i.after
    (fits_length d (g.S.TourStore.cities c.make.new.tour) (laws g c.args.gains.now)
    (omega (arith, c.make.ensures.size, i.size, c.size-cities.ensures.count, c.size-cities.ensures.limits.1)))).0

pub loop-x-smaller-in-Some-find_offer : goal.loop-x-smaller-in-Some-find_offer
loop-x-smaller-in-Some-find_offer g c =
    let i = c.loop-x.invariant in
    let d = g.G.Gains.distance c.args.gains.now in
    let C = g.S.TourStore.cities c.loop-x.tour in
    let D = g.S.TourStore.cities c.make.new.tour in
    let f = c.in-Some-find_offer.found in
    let made = c.make.ensures.made c.args.or_segment c.in-Some-find_offer.ensures.on_cycle.0 in
    let less : tour_length d D + 1 ≤ tour_length d C =
    less_move d _ _ f _ _ c.args.or_segment C D (laws g c.args.gains.now) i.table
    c.in-Some-find_offer.ensures.searched made in
    let left : length c.wake_ends.new.waking.queue + 1 ≤ length c.loop-x.waking.queue + 6 =
    queue_left c.loop-x.waking.queue c.take.new.self.queue c.wake_ends.new.waking.queue _ f.offer
    c.in-Some.ensures.taken c.wake_ends.ensures.queue in
    let before : tour_length (g.G.Gains.distance c.loop-x.gains) C ≡ tour_length d C =
    ap (λ z. tour_length z C) i.table in
    let after : tour_length (g.G.Gains.distance c.find_offer.new.self) D ≡ tour_length d D =
    ap (λ z. tour_length z D) (c.find_offer.ensures.same.0 ∙ i.table) in
    omega (arith, less, left, before, after)

pub loop-x-preserved-in-Some-find_offer : goal.loop-x-preserved-in-Some-find_offer
loop-x-preserved-in-Some-find_offer g c =
    let i = c.loop-x.invariant in
    let d = g.G.Gains.distance c.args.gains.now in
    let f = c.in-Some-find_offer.found in
    let made = c.make.ensures.made c.args.or_segment c.in-Some-find_offer.ensures.on_cycle.0 in
    let less = less_move d _ _ f _ _ c.args.or_segment (g.S.TourStore.cities c.loop-x.tour)
    (g.S.TourStore.cities c.make.new.tour) (laws g c.args.gains.now) i.table
    c.in-Some-find_offer.ensures.searched made in
    record {
      run = (
        _,
        run_move d _ c.args.or_segment _ _ _ _ _ _ _ _ _ _ _ f _ _ _ i.table c.in-Some-find_offer.ensures.searched
            i.run.1 c.in-Some.ensures.taken made c.wake_ends.ensures.queue,
        count_look d _ _ _ _ _ _ _ i.table c.in-Some-find_offer.ensures.searched i.run.2,
      );
      tour = (g.met.R.Rule.exact c.args.rule.now f.offer (g.S.TourStore.cities c.loop-x.tour)
          (g.S.TourStore.cities c.make.new.tour)
          (round_of _ (g.met.S.TourStore.is_tour c.loop-x.tour)).distinct i.tour
          (more_made c.args.or_segment f.offer _ _ c.requires.most.1 made)).0
          (may_made _ _ f _ _ c.in-Some-find_offer.ensures.searched);
      table = c.find_offer.ensures.same.0 ∙ i.table;
      range = c.find_offer.ensures.same.1 ∙ i.range;
      size = c.make.ensures.size ∙ i.size;
      awake = c.wake_ends.ensures.size ∙ c.take.ensures.size ∙ i.awake;
      after =
          (worth_move d _ _ f _ _ c.args.or_segment (g.S.TourStore.cities c.loop-x.tour)
          (g.S.TourStore.cities c.make.new.tour) _ (laws g c.args.gains.now) i.table
          c.in-Some-find_offer.ensures.searched made i.after
          (fits_length d (g.S.TourStore.cities c.make.new.tour) (laws g c.args.gains.now)
          (omega (
            arith,
            c.make.ensures.size,
            i.size,
            c.size-cities.ensures.count,
            c.size-cities.ensures.limits.1,
          )))).1;
      gained = omega (arith, less, i.gained);
      looked =
          omega (
            arith,
            i.looked,
            queue_left c.loop-x.waking.queue c.take.new.self.queue c.wake_ends.new.waking.queue
                _ f.offer c.in-Some.ensures.taken c.wake_ends.ensures.queue,
          );
      tests = omega (arith, i.tests, c.find_offer.ensures.bound);
      tests_rise =
          tests_rise _ _ _ _ _ _ c.in-Some-find_offer.ensures.searched (g.met.G.Gains.count_limit c.loop-x.gains)
          i.tests_rise;
      swaps_rise = omega (arith, i.swaps_rise, c.make.ensures.rises);
      swaps = more_swaps (g.S.TourStore.swap_count c.args.tour.now) (g.S.TourStore.swap_count c.loop-x.tour)
          (g.S.TourStore.swap_count c.make.new.tour) (length (g.S.TourStore.cities c.args.tour.now) / 4)
          c.loop-x.moves i.swaps
          (subst (λ z. g.S.TourStore.swap_count c.make.new.tour ≤ g.S.TourStore.swap_count c.loop-x.tour + 3 * (z / 4))
          i.size c.make.ensures.swaps);
      flips = omega (arith, i.flips, c.make.ensures.flips);
      kept = g.met.S.TourStore.flips_more _ _ _ i.kept c.make.ensures.kept;
    }

pub loop-x-preserved : goal.loop-x-preserved
loop-x-preserved g c =
    let i = c.loop-x.invariant in
    let d = g.G.Gains.distance c.args.gains.now in
    record {
      run = (
        _,
        run_asleep d _ c.args.or_segment _ _ _ _ _ _ _ _ _ i.run.1 c.in-Some.ensures.taken _ _ _ i.table
            c.in_default-find_offer.ensures.searched,
        count_look d _ _ _ _ _ _ _ i.table c.in_default-find_offer.ensures.searched i.run.2,
      );
      tour = i.tour;
      table = c.find_offer.ensures.same.0 ∙ i.table;
      range = c.find_offer.ensures.same.1 ∙ i.range;
      size = i.size;
      awake = c.take.ensures.size ∙ i.awake;
      after = i.after;
      gained = i.gained;
      looked = omega (arith, i.looked, ap length c.in-Some.ensures.taken);
      tests = omega (arith, i.tests, c.find_offer.ensures.bound);
      tests_rise =
          tests_rise _ _ _ _ _ _ c.in_default-find_offer.ensures.searched (g.met.G.Gains.count_limit c.loop-x.gains)
          i.tests_rise;
      swaps_rise = i.swaps_rise;
      swaps = i.swaps;
      flips = i.flips;
      kept = i.kept;
    }

pub overflow_sub-result : goal.overflow_sub-result
overflow_sub-result g c = omega (arith, c.loop-x.invariant.tests_rise, c.tests-tests.ensures, c.tests.ensures)

pub overflow_sub-result-2 : goal.overflow_sub-result-2
overflow_sub-result-2 g c = omega (arith, c.loop-x.invariant.swaps_rise, c.swaps-swaps.ensures, c.swaps.ensures)

pub returns-clause-descent : goal.returns-clause-descent
returns-clause-descent g c =
    let i = c.loop-x.invariant in
    let d = g.G.Gains.distance c.args.gains.now in
    let near = near_of c.args.near.now in
    let T = g.S.TourStore.cities c.args.tour.now in
    let W = c.args.waking.now.queue in
    let D = g.S.TourStore.cities c.loop-x.tour in
    let asleep = c.in_default.ensures.taken.0 in
    let fits = g.R.Rule.Fits c.args.rule.now in
    let may = g.R.Rule.allowed c.args.rule.now in
    let rule = g.met.R.Rule.exact c.args.rule.now in
    let few : length T ≤ CITY_LIMIT = omega (arith, c.size-cities.ensures.count, c.size-cities.ensures.limits.1) in
    let most : c.tests.result - c.tests-tests.result
    ≤ 4 * c.args.or_segment * c.args.near.now.width * (length W + 6 * c.loop-x.moves) =
    omega (
      arith,
      i.tests,
      c.tests-tests.ensures,
      c.tests.ensures,
      fewer c.args.or_segment c.args.near.now.width c.loop-x.looks (length W + 6 * c.loop-x.moves)
          (omega (arith, i.looked)),
    ) in
    let run : ExecutionUnder may d near c.args.or_segment T W D [] c.loop-x.looks c.loop-x.moves i.run.0 =
    subst (λ z. ExecutionUnder may d near c.args.or_segment T W D z c.loop-x.looks c.loop-x.moves i.run.0) asleep
    i.run.1 in
    record {
      run = (i.run.0, run, i.run.2);
      fresh = λ fresh.
          subst (λ z. ExecutionUnder may d near c.args.or_segment T W D [] c.loop-x.looks c.loop-x.moves z)
          (fresh_count _ _ i.run.0 _ i.run.2 (omega (arith, c.tests-tests.ensures, c.tests.ensures)) fresh
          (few_tests c.args.or_segment c.args.near.now.width (length W) c.loop-x.moves _ (tour_length d T)
          c.requires.most.1 (omega (arith, c.width-candidates.ensures.value, c.width-candidates.ensures.limit))
          (omega (
            arith,
            c.len-awake.ensures.value,
            c.len-awake.ensures.limit,
            c.requires.fits.2,
            c.size-cities.ensures.count,
            c.size-cities.ensures.limits.1,
          )) (omega (arith, i.gained)) (fits_length d T (laws g c.args.gains.now) few) most)) run;
      wakes =
          subst (λ z. WakesUnder fits d near c.args.or_segment T W D z) asleep
          (run_wakes fits may d near c.args.or_segment T W rule (laws g c.args.gains.now) c.requires.most.1
          (round_of _ (g.met.S.TourStore.is_tour c.args.tour.now)).distinct c.requires.tour
          c.len-awake.ensures.distinct i.run.1);
      asleep = search rules;
      tour = subst (λ z. IsTour z D) i.size (g.met.S.TourStore.is_tour c.loop-x.tour).2;
      fitting = i.tour;
      reported = record {
        before = search rules;
        after = search rules;
        moves = i.gained;
        looks_most = omega (arith, i.looked);
        tests_most = most;
        tests = search rules;
        swaps_most = search rules;
        swaps = search rules;
        flips_most = i.flips;
        rises = (i.tests_rise, i.swaps_rise);
      };
    }

pub returns-clause-headline : goal.returns-clause-headline
returns-clause-headline g c =
    let i = c.loop-x.invariant in
    let d = g.G.Gains.distance c.args.gains.now in
    let n = length (g.S.TourStore.cities c.args.tour.now) in
    let before = tour_length d (g.S.TourStore.cities c.args.tour.now) in
    let after = tour_length d (g.S.TourStore.cities c.loop-x.tour) in
    let fits : SFits w64 c.args.before = search rules in
    let shorter : unsigned_abs (to_z w64 (of_z w64 c.args.before) -ℤ to_z w64 c.loop-x.after-bits) ≡ before - after =
    saved_is _ _ before after (to_z-of_z w64 c.args.before fits ∙ c.requires.before) i.after
    (omega (arith, i.gained)) in
    let tests : ℕ = c.tests.result - c.tests-tests.result in
    let most : ℕ → ℕ = λ v. 4 * c.args.or_segment * c.args.near.now.width * (n + 6 * v) in
    let few : tests ≤ most (before - after) =
    omega (
      arith,
      i.tests,
      c.tests-tests.ensures,
      c.tests.ensures,
      fewer c.args.or_segment c.args.near.now.width c.loop-x.looks (n + 6 * (before - after))
          (omega (arith, i.looked, i.gained, c.len-awake.ensures.value, c.len-awake.ensures.limit, c.requires.fits.2)),
    ) in
    subst (λ v. tests ≤ most v) (sym shorter) few

pub returns-clause-stored : goal.returns-clause-stored
returns-clause-stored g c = c.width-candidates.ensures.stored ∙ ap (λ z. z * c.args.near.now.width) c.requires.fits.1
