use Rattle.std.proofs.Common.{ℕ, List, ◌≡◌, ◌+◌, length, pos, refl, sym, ap, ◌∙◌, subst, rules, arith}
use Rattle.std.proofs.lemmas.Int.{to_z-of_z}
use Rattle.tk_descent.proofs.WakeExecutions.Passes.{all_awake}
use Rattle.tk_rings.specs.LoadedRings.{KeepsLoaded, cities_in}
use Rattle.tk_tour.specs.Tour.{tour_length}
use Rattle.tk_tour.proofs.CitiesOfTours.{cities_of_tour}
use Rattle.tk_ring_search.specs.Best.{best_of}
use Rattle.tk_ring_search.specs.Descents.{Fits}
use Rattle.tk_ring_search.specs.Given.{given_of}
use Rattle.tk_ring_search.proofs.trials.state.State.begin.Goals as goal
use Rattle.tk_ring_search.proofs.trials.state.State.begin.Goals.{After-new-5}
use Rattle.tk_ring_search.proofs.trials.state.State.begin.Given.{Over}
use mir.Syntax.{w64}
use mir.Val.{SFits}

pub length-before-requires-clause-cities : goal.length-before-requires-clause-cities
length-before-requires-clause-cities g c =
    let elements = c.elements.result.now in
    cities_of_tour (length elements) _ elements
    (omega (arith, c.requires.sizes.0, ap length c.elements.ensures.elements, ap length c.in_ok-best.ensures))
    c.elements.ensures.tour.2

-- the ring that the descent found is settled, and the best
settled_ring : (g : Over) (c : After-new-5 g) → cities_in c.settle.new.self ≡ cities_in c.descend-report.new.ring
settled_ring g c = ap (g.S.TourStore.cities) c.settle.ensures.tour

best_ring : (g : Over) (c : After-new-5 g) → best_of c.take.new.self ≡ cities_in c.descend-report.new.ring
best_ring g c = c.take.ensures ∙ ap (g.S.TourStore.cities) c.tour.ensures.tour

start_cost : (g : Over) (c : After-new-5 g) →
    c.length-before.result ≡ pos (tour_length (g.M.Metric.distance c.args.terms.now.metric.now) (g.S.TourStore.cities
    c.args.ring))
start_cost g c = c.length-before.ensures
    ∙ ap (λ v. pos (tour_length (g.M.Metric.distance c.args.terms.now.metric.now) v))
    (c.elements.ensures.elements ∙ c.in_ok-best.ensures)

pub returns-clause-begun : goal.returns-clause-begun
returns-clause-begun g c =
    let fb : SFits w64 c.length-before.result = search rules in
    let kept : KeepsLoaded c.in_ok-ring.ring c.descend-report.new.ring = c.descend-report.ensures.flips_only in
    record {
      given_is = refl;
      from = _;
      to = _;
      report = c.descend-report.result;
      descends = record {
        swept = c.descend-report.ensures.swept;
        once = c.descend-report.ensures.once;
        reported = c.descend-report.ensures.reported;
        asleep = c.descend-report.ensures.asleep;
        tour = c.descend-report.ensures.tour;
        fitting = c.descend-report.ensures.fitting;
      };
      tour = c.in_ok-ring.ensures.order;
      awake = all_awake _ _ _ _ c.wake_all.ensures.queue c.in_ok-waking.ensures.0
          (c.in_ok-waking.ensures.1 ∙ c.size-n.ensures);
      tests = refl;
      swaps = c.in_ok-ring.ensures.counts.0;
      by_flips = record {
        flips = kept.settled.flipped.flips;
        swaps = kept.settled.flipped.swaps;
        reversed = kept.settled.flipped.reversed;
        flips_are = kept.settled.flips;
        swaps_are = kept.settled.flipped.swaps_are;
      };
      ring = settled_ring g c;
      best = best_ring g c;
      start_is = c.new-5.ensures.start ∙ to_z-of_z w64 c.length-before.result fb ∙ start_cost g c;
      work = c.new-5.ensures.work;
      none = c.new-5.ensures.none;
    }

pub returns-clause-holds : goal.returns-clause-holds
returns-clause-holds g c =
    let given = given_of g.M.Metric c.args.terms.now in
    let d = c.descend-report.ensures in
    let kept : KeepsLoaded c.in_ok-ring.ring c.descend-report.new.ring = d.flips_only in
    let fa : SFits w64 c.descend-report.result.descent.after = search rules in
    let steps = c.in_ok-steps.ensures (g.M.Metric.distance c.args.terms.now.metric.now) in
    let n : ℕ = length (g.S.TourStore.cities c.args.ring) in
    let same : length (cities_in c.descend-report.new.ring) ≡ n = d.sizes.0 ∙ ap length c.in_ok-ring.ensures.order in
    let best : length (best_of c.take.new.self) ≡ n = ap length (best_ring g c) ∙ same in
    let FitsRing : List ℕ → Type 0 = λ v. Fits given v in
    let cost = to_z-of_z w64 c.descend-report.result.descent.after fa ∙ d.reported.after in
    record {
      stands = record {
        elements = c.requires.sizes.0 ∙ sym best;
        lists = c.requires.sizes.1 ∙ sym best;
        queue = d.sizes.1 ∙ c.wake_all.ensures.size ∙ c.in_ok-waking.ensures.1 ∙ c.size-n.ensures ∙ sym best;
        asleep = d.asleep;
        steps = d.steps;
        segment = c.requires.most;
        demands = c.settle.ensures.demands ∙ kept.demands ∙ c.in_ok-ring.ensures.demands;
        count = ap length (settled_ring g c) ∙ same ∙ sym best;
        settled = c.settle.ensures.settled ∙ sym (settled_ring g c);
        flips = c.settle.ensures.flips;
        slots = c.settle.ensures.slots ∙ kept.settled.slots ∙ c.in_ok-ring.ensures.slots
            ∙ ap (λ v. v + 1000) (c.size-n.ensures ∙ sym best);
        fits = subst FitsRing (sym (settled_ring g c)) d.fitting;
        best_fits = subst FitsRing (sym (best_ring g c)) d.fitting;
        cost = cost ∙ ap (λ v. pos (tour_length given.distance v)) (sym (settled_ring g c));
        shortest = cost ∙ ap (λ v. pos (tour_length given.distance v)) (sym (best_ring g c));
      };
      swaps = omega (
        arith,
        c.new-5.ensures.work.2,
        d.reported.swaps,
        c.in_ok-ring.ensures.counts.0,
        ap g.S.TourStore.swap_count c.settle.ensures.tour,
      );
      countable = c.new-5.ensures.countable;
    }
