use Rattle.std.proofs.Common.{◌≡◌, ℕ, ◌≤◌, ◌+◌, true, List, length, pos, refl, sym, ap, ◌∙◌, subst, arith}
use Rattle.std.proofs.lemmas.Int.{ints}
use Rattle.tk_descent.specs.Awake.{woken_each}
use Rattle.tk_search.specs.Cuts.{kick_swaps}
use Rattle.tk_tour.specs.Counters.{saturated}
use Rattle.tk_tour.specs.JournalTours.{settled_order, slots_of}
use Rattle.tk_tour.specs.Tour.{tour_length}
use Rattle.tk_rings.specs.Capacities.{demand_in, is_copy}
use Rattle.tk_rings.specs.LoadedRings.{KeepsLoaded, KeepsLoaded-trans, cities_in, flips_in, ring_in}
use Rattle.tk_rings.specs.StretchLaws.{fits-cycle}
use Rattle.tk_ring_search.specs.Best.{best_of}
use Rattle.tk_ring_search.specs.Descents.{Fits}
use Rattle.tk_ring_search.specs.Given.{given_of}
use Rattle.tk_ring_search.specs.Judging.{IsSettled, Settles, limit_of}
use Rattle.tk_ring_search.specs.Kicks.{ends_of, kicked}
use Rattle.tk_ring_search.specs.Searching.{slots_for}
use Rattle.tk_ring_search.specs.declared.trials.best.Best.{Best}
use Rattle.tk_ring_search.specs.declared.trials.totals.RingTotals.{RingTotals}
use Rattle.tk_ring_search.proofs.TrialResults.{can_not, can_undo, cost_is, few_cost, held_is, kept, limit_is}
use Rattle.tk_ring_search.proofs.TrialResults.{settled_of}
use Rattle.tk_ring_search.proofs.TrialResults.{shortest_is, undone_can}
use Rattle.tk_ring_search.proofs.trials.state.State.descend_kicked.Goals as goal

pub descend-passes-requires-clause-fits : goal.descend-passes-requires-clause-fits
descend-passes-requires-clause-fits g c =
    let given = given_of g.M.Metric c.args.terms.now in
    let C : List ℕ = cities_in c.args.self.now.ring in
    let D : List ℕ = cities_in c.make-before.new.self.ring in (
      omega (arith, c.make-before.ensures.size, c.requires.stands.fits.0),
      sym (fits-cycle given.capacity (demand_in given.demands) (is_copy given.demands) D (kicked c.args.kick C)
          c.make-before.ensures.kicked) ∙ c.requires.fits,
    )

pub limit-limit-requires-clause-best : goal.limit-limit-requires-clause-best
limit-limit-requires-clause-best g c =
    let m = c.args.terms.now.metric.now in
    let few = few_cost (g.M.Metric.distance m) _ _ c.requires.stands.elements (g.met.M.Metric.size_limit m)
    (g.met.M.Metric.symmetric m) (g.met.M.Metric.distance_limit m) in
    let e = held_is _ _ (c.make-before.ensures.others.2 ∙ c.requires.stands.shortest) (omega (arith, few)) in
    (omega (arith, ints, e), omega (arith, ints, e, few))

pub settle-requires-clause-room : goal.settle-requires-clause-room
settle-requires-clause-room g c = λ e.
    can_undo c.lost.result _ _ c.lost.ensures (undone_can _ _ _ _ _ _ c.judge-outcome.ensures e)

pub returns : goal.returns
returns g c =
    let m = c.args.terms.now.metric.now in
    let given = given_of g.M.Metric c.args.terms.now in
    let d = g.M.Metric.distance m in
    let old = c.args.self.now in
    let h = c.requires.stands in
    let k = c.make-before.ensures in
    let e = c.descend-passes.ensures in
    let o = c.judge-outcome.result in
    let ring : List ℕ = cities_in old.ring in
    let best : List ℕ = best_of old.best in
    let found : List ℕ = cities_in c.descend-passes.new.ring in
    let flips : ℕ = flips_in c.descend-passes.new.ring in
    let kicked_kept : KeepsLoaded old.ring c.make-before.new.self.ring = k.kept in
    let descended : KeepsLoaded c.make-before.new.self.ring c.descend-passes.new.ring = e.flips_only in
    let all_kept : KeepsLoaded old.ring c.descend-passes.new.ring =
    KeepsLoaded-trans old.ring c.make-before.new.self.ring c.descend-passes.new.ring kicked_kept descended in
    let few : (C : List ℕ) → g.M.Metric.size_of m ≡ length C → tour_length d C ≤ 400000000000000 =
    λ C same. few_cost d C _ same (g.met.M.Metric.size_limit m) (g.met.M.Metric.symmetric m)
    (g.met.M.Metric.distance_limit m) in
    let ring_size : length ring ≡ length best = h.count in
    let found_size : length found ≡ length best = e.sizes.0 ∙ k.size ∙ ring_size in
    let slots : slots_of (ring_in c.descend-passes.new.ring) ≡ slots_for (length ring) =
    all_kept.settled.slots ∙ h.slots ∙ ap slots_for (sym ring_size) in
    let cost_found = held_is _ _ e.reported.after
    (omega (arith, few found (h.elements ∙ sym found_size))) in
    let cost_ring = held_is _ _ (k.others.1 ∙ h.cost) (omega (arith, few ring (h.elements ∙ sym ring_size))) in
    let cost_best = held_is _ _ (k.others.2 ∙ h.shortest) (omega (arith, few best h.elements)) in
    let at : ℕ → ℕ = λ made. limit_of (tour_length d best) made given.trials in
    let limit = limit_is _ _ _ _ _ cost_best (few best h.elements) c.limit-limit.ensures
    ∙ ap (λ (t : RingTotals). pos (at t.trials)) k.others.3 in
    let Ends : Best → Type 0 = λ v. Settles o (settled_order (ring_in c.descend-passes.new.ring)) found (best_of v)
    (cities_in c.settle.new.ring) (best_of c.settle.new.best) in
    let settled : IsSettled d (at old.totals.trials) (slots_for (length ring)) flips ring best found o
    (cities_in c.settle.new.ring) (best_of c.settle.new.best) =
    settled_of d (at old.totals.trials) (slots_for (length ring)) flips ring best found _ _ _ _ _ cost_found cost_ring
    cost_best limit _ _ _
    (λ can. omega (arith, can_undo c.lost.result _ _ c.lost.ensures can, slots))
    (λ cant. omega (arith, can_not c.lost.result _ _ c.lost.ensures cant, slots))
    (λ room. all_kept.settled.settled (omega (arith, room, slots)) ∙ h.settled)
    o c.judge-outcome.ensures (subst Ends k.others.0 c.settle.ensures.settles) in
    let HasSize : List ℕ → Type 0 = λ v. length v ≡ length best in
    let FitsRing : List ℕ → Type 0 = λ v. Fits given v in
    let sizes = kept d (at old.totals.trials) (slots_for (length ring)) flips ring best found HasSize ring_size refl
    found_size o _ _ settled in
    let fits = kept d (at old.totals.trials) (slots_for (length ring)) flips ring best found FitsRing h.fits h.best_fits
    e.fitting o _ _ settled in
    let cost = c.cost_after-self.ensures
    ∙ cost_is d (at old.totals.trials) (slots_for (length ring)) flips ring best found _ _ _ _ true cost_found cost_ring
    cost_best limit o _ _ settled in
    let shortest = c.min-self.ensures.value
    ∙ shortest_is d (at old.totals.trials) (slots_for (length ring)) flips ring best found _ _ _ _ true cost_found
    cost_ring cost_best limit o _ _ (omega arith) settled in
    record {
      descent = record {
        from = _;
        to = _;
        tour = k.kicked;
        awake = k.awake ∙ ap (λ v. woken_each v (ends_of c.args.kick ring)) h.asleep;
        tests = refl;
        swaps_before = k.swaps
            ∙ ap (λ v. saturated (v + kick_swaps (length ring) c.args.kick.cuts)) (sym c.requires.swaps);
        flips = omega (arith, k.flips, h.flips);
        descends = record {
          swept = e.swept;
          once = e.once;
          reported = e.reported;
          asleep = e.asleep;
          tour = e.tour;
          fitting = e.fitting;
        };
        by_flips = record {
          flips = descended.settled.flipped.flips;
          swaps = descended.settled.flipped.swaps;
          reversed = descended.settled.flipped.reversed;
          flips_are = descended.settled.flips;
          swaps_are = descended.settled.flipped.swaps_are;
        };
        swaps_after = c.settle.ensures.same.0;
        settles = settled;
      };
      draws = refl;
      totals = k.others.3;
      stands = record {
        elements = h.elements ∙ sym sizes.1;
        lists = h.lists ∙ sym sizes.1;
        queue = e.sizes.1 ∙ k.others.5 ∙ h.queue ∙ sym sizes.1;
        asleep = e.asleep;
        steps = e.steps;
        segment = h.segment;
        demands = c.settle.ensures.demands ∙ all_kept.demands ∙ h.demands;
        count = sizes.0 ∙ sym sizes.1;
        settled = c.settle.ensures.settled.0;
        flips = c.settle.ensures.settled.1;
        slots = c.settle.ensures.same.1 ∙ slots ∙ ap slots_for (ring_size ∙ sym sizes.1);
        fits = fits.0;
        best_fits = fits.1;
        cost = held_is _ _ cost (omega (arith, few _ (h.elements ∙ sym sizes.0)));
        shortest = held_is _ _ shortest (omega (arith, few _ (h.elements ∙ sym sizes.1)));
      };
    }
