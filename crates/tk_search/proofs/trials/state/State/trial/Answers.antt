use Rattle.std.proofs.Common.{◌≡◌, ℕ, ◌+◌, ◌<◌, List, length, refl, sym, ap, ◌∙◌, subst, arith}
use Rattle.tk_search.specs.Searching.{first, kicked}
use Rattle.tk_tour.specs.JournalTours.{cities_of, swaps_of, swaps_to_rewind}
use Rattle.tk_tour.specs.Tour.{tour_length}
use Rattle.tk_search.specs.Best.{best_of, copied_to}
use Rattle.tk_search.specs.declared.trials.best.Best.{Best}
use Rattle.tk_descent.specs.Awake.{one_to}
use Rattle.tk_descent.proofs.WakeExecutions.Passes.{all_awake}
use Rattle.tk_descent.proofs.WakeExecutions.WokenQueue.{one_to-length}
use Rattle.tk_search.specs.Totals.{AddsTrial}
use Rattle.tk_search.specs.Trials.{gain_of, IsBoundedTrial}
use Rattle.tk_search.specs.declared.trials.totals.Totals.{Totals}
use Rattle.tk_search.proofs.SearchTrials.Searches.{Leaves, few_ends, kick_at, more_awake, same_best}
use Rattle.tk_search.proofs.SearchTrials.Searches.{searches_first, searches_kicked, shorter_best, trial_at}
use Rattle.tk_tour.specs.Counters.{saturated}
use Rattle.tk_search.specs.Cuts.{kick_swaps}
use Rattle.tk_search.proofs.DoubleBridge.KickSwaps.{kick_few}
use Rattle.tk_search.proofs.SearchTrials.Settling.{settles}
use Rattle.tk_search.proofs.trials.state.State.trial.Given.{Over}
use Rattle.tk_search.proofs.trials.state.State.trial.Goals as goal
use Rattle.tk_search.proofs.trials.state.State.trial.Goals.{After-descend, After-descend-2}

-- all cities are awake before the first descent
all_woken : (g : Over) (c : After-descend g) →
    c.wake_all.new.self.queue ≡ one_to (length (best_of c.args.self.now.best))
all_woken g c = all_awake _ _ _ _ c.wake_all.ensures.queue c.requires.asleep c.requires.queue

-- the state after the first trial
leaves_first : (g : Over) (c : After-descend g) →
    Leaves c.args.near.now (g.M.Metric.distance c.args.metric.now) c.args.rules c.args.self.now c.descend.new.self
    (length (best_of c.args.self.now.best)) c.descend.ensures.trial.0.flips c.descend.ensures.trial.0.swaps
    c.descend.result
leaves_first g c =
    let s = c.args.self.now in
    let h = c.requires in
    let d = c.descend.ensures in
    let awake : length c.wake_all.new.self.queue ≡ length (best_of s.best) =
    ap length (all_woken g c) ∙ one_to-length (length (best_of s.best)) in
    record {
      size = d.size.0;
      slots = d.size.1;
      asleep = d.waking.0;
      steps = d.steps;
      waking = d.waking.1 ∙ c.wake_all.ensures.size;
      at_best = d.at_best;
      shortest = d.shortest;
      counts = d.counts;
      adds = d.adds;
      bounded = more_awake _ _ _ _ _ _ (λ o. omega (arith, awake)) d.bounded;
      swapped = omega (arith, d.counts.swaps, d.swapped, h.counts.swaps);
      settles = settles (length (best_of s.best)) d.trial.0.flips d.trial.0.swaps 0 d.trial.0.flips d.trial.0.swaps
          s.totals _ _ _ d.trial.1 d.counts refl h.slots (omega (arith, h.at_best.flips)) (omega arith)
          (omega (arith, h.counts.swaps, g.met.S.UndoStore.counts_fit s.tour.tour))
          (omega (arith, h.counts.swaps, h.at_best.swaps, g.met.S.UndoStore.counts_fit s.tour.tour)) h.counts.undo_swaps
          h.counts.copied d.small;
      few = omega (arith, d.trial.0.few);
      less = shorter_best d.trial.0;
      same = same_best d.trial.0;
    }

-- the swaps so far after a kick, and below after the descent from it
swaps_kicked : (g : Over) (c : After-descend-2 g) →
    swaps_of c.kick-before.new.self.tour ≡ saturated
    (c.args.self.now.totals.swaps
    + kick_swaps (length (best_of c.args.self.now.best)) c.kick-before.ensures.kicked.0.cuts)
swaps_kicked g c =
    rw (c.requires.counts.swaps, ← c.requires.at_best.order) c.kick-before.ensures.kicked.1

swaps_descended : (g : Over) (c : After-descend-2 g) →
    c.descend-2.new.self.totals.swaps ≡ saturated
    (c.args.self.now.totals.swaps
    + kick_swaps (length (best_of c.args.self.now.best)) c.kick-before.ensures.kicked.0.cuts)
    + c.descend-2.result.descent.swaps
swaps_descended g c =
    let d = c.descend-2.ensures in
    d.counts.swaps ∙ d.swapped ∙ ap (λ v. v + c.descend-2.result.descent.swaps) (swaps_kicked g c)

-- the state after a kicked trial
leaves_kicked : (g : Over) (c : After-descend-2 g) →
    Leaves c.args.near.now (g.M.Metric.distance c.args.metric.now) c.args.rules c.args.self.now c.descend-2.new.self 8
    (4 + c.descend-2.ensures.trial.0.flips)
    (kick_swaps (length (best_of c.args.self.now.best)) c.kick-before.ensures.kicked.0.cuts
    + c.descend-2.ensures.trial.0.swaps) c.descend-2.result
leaves_kicked g c =
    let s = c.args.self.now in
    let h = c.requires in
    let k = c.kick-before.ensures in
    let d = c.descend-2.ensures in
    let r = c.descend-2.result in
    let dist : ℕ → ℕ → ℕ = g.M.Metric.distance c.args.metric.now in
    let best : List ℕ = best_of c.descend-2.new.self.best in
    let Adds : Totals → Type 0 = λ v. AddsTrial v c.descend-2.new.self.totals r (gain_of r) in
    let Bounded : Best → Type 0 =
    λ v. IsBoundedTrial (length (best_of v)) c.args.near.now.width (length c.kick-before.new.self.waking.queue)
    c.args.rules r in
    let Less : Best → Type 0 = λ v. tour_length dist best < tour_length dist (best_of v) in
    let n : ℕ = length (best_of s.best) in
    let back =
    k.kept.swaps (omega (arith, k.flips, h.at_best.flips, k.kept.slots, h.slots, ap length h.at_best.order)) in
    let undone : swaps_of c.kick-before.new.self.tour ≡ saturated
    (s.totals.swaps + swaps_to_rewind c.kick-before.new.self.tour) =
    omega (arith, k.kept.flipped.swaps_are, h.counts.swaps, back, h.at_best.swaps) in
    record {
      size = d.size.0 ∙ ap (λ v. length (best_of v)) k.others.0;
      slots = d.size.1 ∙ k.kept.slots;
      asleep = d.waking.0;
      steps = d.steps;
      waking = d.waking.1 ∙ k.others.3;
      at_best = d.at_best;
      shortest = d.shortest;
      counts = d.counts;
      adds = subst Adds k.others.2 d.adds;
      bounded =
          more_awake _ _ _ _ _ _ (λ o. few_ends s.waking.queue c.kick-before.new.self.waking.queue (cities_of s.tour)
          (length (cities_of s.tour)) k.kicked.0.cuts h.asleep (k.kicked.0.ends o))
          (subst Bounded k.others.0 d.bounded);
      swapped = omega (arith, swaps_descended g c, kick_few n k.kicked.0.cuts);
      settles = settles n (4 + d.trial.0.flips) (kick_swaps n k.kicked.0.cuts + d.trial.0.swaps)
          (kick_swaps n k.kicked.0.cuts) d.trial.0.flips d.trial.0.swaps s.totals c.kick-before.new.self
          c.descend-2.new.self r d.trial.1 d.counts (ap (λ v. length (best_of v)) k.others.0) (k.kept.slots ∙ h.slots)
          (omega (arith, k.flips, h.at_best.flips)) refl (swaps_kicked g c) undone
          (h.counts.undo_swaps ∙ sym k.kept.flipped.undo_swaps)
          (omega (arith, h.counts.copied, k.kept.flipped.copied, ap copied_to k.others.0)) d.small;
      few = omega (arith, d.trial.0.few);
      less = λ e. subst Less k.others.0 (shorter_best d.trial.0 e);
      same = λ e. same_best d.trial.0 e ∙ ap (λ v. tour_length dist (best_of v)) k.others.0;
    }

pub descend-requires-2-clause-size : goal.descend-requires-2-clause-size
descend-requires-2-clause-size g c =
    c.kick-before.ensures.size ∙ ap length c.requires.at_best.order
    ∙ sym (ap (λ v. length (best_of v)) c.kick-before.ensures.others.0)

pub returns-then-self-eq0-clause-next : goal.returns-then-self-eq0-clause-next
returns-then-self-eq0-clause-next g c =
    let s = c.args.self.now in
    let d = c.descend.ensures in
    let here = (goal.at.returns-then-self-eq0-clause-next g c).After-descend in
    let leaves = leaves_first g here in
    let t = trial_at c.requires.at_best.order (all_woken g here) refl d.trial.0 in
    first (omega arith)
    (record {
      given = record { distance = refl; near = refl; rules = refl };
      trial = t.0;
      kicked = d.kicked;
      adds = leaves.adds;
      flips = omega (arith, d.trial.1.flips_are, t.1);
      swaps = omega (arith, d.counts.swaps, d.swapped, c.requires.counts.swaps);
      settles = rw (t.1, t.2) leaves.settles;
      bounded = leaves.bounded;
    })
    refl

pub returns-then-self-eq0-clause-holds : goal.returns-then-self-eq0-clause-holds
returns-then-self-eq0-clause-holds g c =
    searches_first c.requires
    (leaves_first g (goal.at.returns-then-self-eq0-clause-holds g c).After-descend) (omega arith) refl

pub returns-clause-holds : goal.returns-clause-holds
returns-clause-holds g c =
    searches_kicked c.requires
    (leaves_kicked g (goal.at.returns-clause-holds g c).After-descend-2) (omega arith) refl

pub returns-clause-next : goal.returns-clause-next
returns-clause-next g c =
    let h = c.requires in
    let k = c.kick-before.ensures in
    let d = c.descend-2.ensures in
    let tour : List ℕ = cities_of c.kick-before.new.self.tour in
    let awake : List ℕ = c.kick-before.new.self.waking.queue in
    let here = (goal.at.returns-clause-next g c).After-descend-2 in
    let leaves = leaves_kicked g here in
    let kick = kick_at h.at_best.order h.asleep k.kicked.0 in
    let t = trial_at refl refl (ap best_of k.others.0) d.trial.0 in
    let four : k.kept.flipped.flips ≡ 4 = omega (arith, k.kept.flips, k.flips, h.at_best.flips) in
    kicked (omega arith) (omega (arith, ap length h.at_best.order))
    (record {
      given = record { distance = refl; near = refl; rules = refl };
      tour = tour;
      awake = awake;
      kick = kick.0;
      trial = t.0;
      kicked = d.kicked;
      adds = leaves.adds;
      flips = omega (arith, d.trial.1.flips_are, k.kept.flipped.flips_are, four, t.1);
      swaps = rw kick.1 (swaps_descended g here);
      settles = rw (t.1, t.2, kick.1) leaves.settles;
      bounded = leaves.bounded;
    })
