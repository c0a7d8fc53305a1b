use Rattle.std.proofs.Common.{rules, ◌≡◌, ◌≤◌, ◌+◌, ◌*◌, ◌/◌, ℕ, length, arith, ap, ◌∙◌, refl, sym, subst}
use Rattle.std.proofs.lemmas.Int.{to_z-of_z}
use Rattle.std.specs.Prelude.{pos, true, false, if◌then◌else◌}
use Rattle.tk_problem.specs.declared.limits.TheConstants.{CITY_LIMIT}
use Rattle.tk_descent.proofs.WakeExecutions.DescentSteps.{fits_length}
use Rattle.tk_tour.specs.Counters.{saturated}
use Rattle.tk_tour.specs.Tour.{tour_length}
use Rattle.tk_tour.specs.JournalTours.{cities_of, slots_of, flips_since, KeepsSettled}
use Rattle.tk_search.specs.Best.{best_of}
use Rattle.tk_search.specs.Descents.{looks_at_first}
use Rattle.tk_search.specs.Totals.{RisesBy}
use Rattle.tk_search.proofs.SearchTrials.TrialSteps.{same_size, less_of, gain_is, gain_bits, moves_gain}
use Rattle.tk_search.proofs.trials.state.State.descend.Goals as goal
use Rattle.tk_search.proofs.trials.state.State.descend.Goals.{then-better, else-better}
use mir.Syntax.{w64}
use mir.Val.{SFits}

-- if one of two counters of 64 bits has risen by `more`, so has their sum
risen : (more x y x' y' old new : ℕ) → x' ≡ saturated (x + more) → y' ≡ y → old ≡ x + y → new ≡ x' + y' →
    RisesBy more old new
risen more x y x' y' old new by same before after = record { most = omega arith; exact = λ low. omega arith }

pub returns-clause-trial : goal.returns-clause-trial
returns-clause-trial g c =
    let e = c.descend_by-passes.ensures in
    let reported = e.reported in
    let k = c.keep_better.ensures in
    let m = c.args.metric.now in
    let old = c.args.self.now.tour in
    let tour = c.descend_by-passes.new.store in
    let kept : KeepsSettled old tour = e.flips_only in
    let few : length (cities_of old) ≤ CITY_LIMIT =
    omega (arith, c.requires.size, c.requires.fits.0, g.met.M.Metric.size_limit m) in
    let bound = fits_length (g.M.Metric.distance m) (cities_of old)
    (g.met.M.Metric.symmetric m, g.met.M.Metric.distance_limit m) few in
    let exact : flips_since tour ≡ flips_since old + kept.flipped.flips =
    omega (arith, kept.flips, reported.flips_most, reported.moves, bound, c.requires.flips) in
    let fa : SFits w64 c.descend_by-passes.result.descent.after = search rules in
    let fb : SFits w64 c.args.self.now.shortest = search rules in (
      record {
        found = cities_of tour;
        descends = e.descends;
        flips = kept.flipped.flips;
        swaps = kept.flipped.swaps;
        few = omega (arith, exact, reported.flips_most);
        reversed = kept.flipped.reversed;
        before = reported.before;
        after = reported.after;
        better = less_of _ _ _ _ fa fb reported.after c.requires.shortest;
        replaced = k.replaced;
        kept = k.kept;
      },
      record {
        flips_are = k.flips ∙ kept.flipped.flips_are;
        swaps_are = k.swaps ∙ kept.flipped.swaps_are;
        taken = λ h.
            let u = rw (kept.flipped.undo_swaps, kept.flipped.copied) at (k.taken h) in
            (u.0, risen _ _ _ _ _ _ _ u.1 u.2 (omega arith) (omega arith));
        undone = λ h room.
            let fits : flips_since tour ≤ slots_of tour = omega (arith, room, exact, kept.slots) in
            let u = k.rewound h fits in (
              omega (arith, u.0, kept.flipped.undo_swaps, kept.swaps fits),
              omega (arith, u.1, u.2, kept.flipped.copied),
            );
        restored = λ h many.
            let u = rw (kept.flipped.undo_swaps, kept.flipped.copied)
            at (k.restored h (omega (arith, many, exact, kept.slots))) in
            (u.0, risen _ _ _ _ _ _ _ u.2 u.1 refl refl);
      },
    )

pub returns-clause-size : goal.returns-clause-size
returns-clause-size g c =
    let kept : KeepsSettled c.args.self.now.tour c.descend_by-passes.new.store =
    c.descend_by-passes.ensures.flips_only in (
      same_size _ _ _ _ c.keep_better.ensures.replaced c.keep_better.ensures.kept (c.descend_by-passes.ensures.sizes.0
          ∙ c.requires.size),
      c.keep_better.ensures.slots ∙ kept.slots,
    )

pub returns-clause-shortest : goal.returns-clause-shortest
returns-clause-shortest g c =
    let fa : SFits w64 c.descend_by-passes.result.descent.after = search rules in
    let fb : SFits w64 c.args.self.now.shortest = search rules in
    elim c.if-better.branch [
      | then-better w ↦ w.shortest-is ∙ to_z-of_z w64 c.descend_by-passes.result.descent.after fa
          ∙ c.descend_by-passes.ensures.reported.after
          ∙ sym
          (ap (λ v. pos (tour_length (g.M.Metric.distance c.args.metric.now) v))
          (c.keep_better.ensures.replaced w.if-better.true))
      | else-better w ↦ w.shortest-is ∙ to_z-of_z w64 c.args.self.now.shortest fb ∙ c.requires.shortest
          ∙ sym
          (ap (λ v. pos (tour_length (g.M.Metric.distance c.args.metric.now) v))
          (c.keep_better.ensures.kept w.if-better.false))
    ]

pub returns-clause-adds : goal.returns-clause-adds
returns-clause-adds g c =
    let reported = c.descend_by-passes.ensures.reported in
    let fp : SFits w64 c.args.before = search rules in
    let fa : SFits w64 c.descend_by-passes.result.descent.after = search rules in
    let begins = reported.before ∙ sym (to_z-of_z w64 c.args.before fp ∙ c.requires.before) in
    gain_is _ _ _ _ _ (gain_bits _ _ _ _ _ _ fp fa c.requires.before reported.after begins
    c.unsigned_abs-gained.ensures.value) c.with_trial-self.ensures.adds

pub returns-clause-swapped : goal.returns-clause-swapped
returns-clause-swapped g c =
    let reported = c.descend_by-passes.ensures.reported in
    c.keep_better.ensures.swaps ∙ omega (arith, reported.swaps, reported.rises.1)

pub returns-clause-bounded : goal.returns-clause-bounded
returns-clause-bounded g c =
    let reported = c.descend_by-passes.ensures.reported in
    let r = c.descend_by-passes.result in
    let old = length (cities_of c.args.self.now.tour) in
    let awake = c.args.self.now.waking.queue in
    let first = looks_at_first c.args.rules old awake r.passes in
    let Swaps : ℕ → Type 0 = λ v. r.descent.swaps ≤ 3 * (v / 4) * r.descent.moves in
    let Looks : ℕ → Type 0 = λ v. r.descent.looks ≤ v + 6 * r.descent.moves in
    let Tests : ℕ → Type 0 = λ v. r.descent.tests ≤ 4 * c.args.rules.or_segment * c.args.near.now.width *
    (v + 6 * r.descent.moves) in
    let once : c.args.rules.sweep ≡ false → first ≡ length awake =
    λ no. ap (λ z. if z then old * r.passes else length awake) no in
    let swept : c.args.rules.sweep ≡ true → first ≡ length (best_of c.args.self.now.best) * r.passes =
    λ yes. ap (λ z. if z then old * r.passes else length awake) yes ∙ ap (λ v. v * r.passes) c.requires.size in
    record {
      moves = moves_gain _ _ _ _ _ reported.before reported.after reported.moves;
      swaps = subst Swaps c.requires.size reported.swaps_most;
      passes = c.descend_by-passes.ensures.passes;
      looks = λ no. subst Looks (once no) reported.looks_most;
      tests = λ no. subst Tests (once no) reported.tests_most;
      swept_looks = λ yes. subst Looks (swept yes) reported.looks_most;
      swept_tests = λ yes. subst Tests (swept yes) reported.tests_most;
    }
