-- A search after one more trial.
use Rattle.std.proofs.Common.{◌≡◌, ℕ, ◌+◌, ◌-◌, ◌*◌, ◌<◌, ◌≤◌, refl, Bool, true, false, List, [], length, sym, ap, ◌∙◌}
use Rattle.std.proofs.Common.{subst, arith, pos, map}
use Rattle.std.specs.Prelude.{IsTrue}
use Rattle.std.proofs.Math.Nat.{mul-le-mul_left}
use Rattle.rand_core.specs.Stream.{Stream}
use Rattle.tk_near.specs.Near.{NearLists}
use Rattle.tk_tour.specs.JournalTours.{slots_of}
use Rattle.tk_tour.specs.Tour.{tour_length}
use Rattle.tk_tour.specs.declared.store.TourStore.{Ghosts}
use Rattle.tk_tour.specs.declared.undo.UndoStore as undo
use Rattle.tk_distance.specs.Cities.{city_at}
use Rattle.tk_descent.specs.Awake.{woken_each}
use Rattle.tk_descent.specs.EdgeCache.{AreTrueOf}
use Rattle.tk_descent.proofs.OfferLists.Count.{woken_each-le}
use Rattle.tk_search.specs.Best.{best_of}
use Rattle.tk_search.specs.Cuts.{end_places}
use Rattle.tk_search.specs.declared.double_bridges.cuts.Cuts.{Cuts}
use Rattle.tk_search.specs.Searching.{IsSearching}
use Rattle.tk_search.specs.Settled.{IsAtBest}
use Rattle.tk_search.specs.Totals.{AddsTrial, AreCountsOf, IsBounded, SettlesTrial}
use Rattle.tk_search.specs.Trials.{IsTrial, IsBoundedTrial, IsKick, gain_of}
use Rattle.tk_search.specs.declared.trials.descending.SearchRules.{SearchRules}
use Rattle.tk_search.specs.declared.trials.state.State.{State}
use Rattle.tk_search.specs.declared.trials.totals.TrialReport.{TrialReport}
use Rattle.tk_search.proofs.SearchTrials.Bounds.{tests_first, tests_kicked, bounded_more}

-- a trial from equal tours with equal cities awake, with as many flips and swaps
pub trial_at : {dist : ℕ → ℕ → ℕ} {near : ℕ → List ℕ} {rules : SearchRules}
    {from from' awake awake' best best' new : List ℕ} {report : TrialReport} → from ≡ from' → awake ≡ awake' →
    best ≡ best' → (h : IsTrial dist near rules from awake best new report) →
    (t : IsTrial dist near rules from' awake' best' new report) × (t.flips ≡ h.flips) × (t.swaps ≡ h.swaps)
trial_at {dist} {near} {rules} {from} {from'} {awake} {awake'} {best} {best'} {new} {report} ef ea eb h =
    let P : List ℕ → List ℕ → List ℕ → Type 0 = λ f a b. (t : IsTrial dist near rules f a b new report)
    × (t.flips ≡ h.flips) × (t.swaps ≡ h.swaps) in
    subst (P from' awake') eb (subst (λ v. P from' v best) ea (subst (λ v. P v awake best) ef (h, refl, refl)))

-- a kick of an equal tour, at the same cuts
pub kick_at : {best best' asleep asleep' tour awake : List ℕ} {words rest : Stream} {sweep : Bool} → best ≡ best' →
    asleep ≡ asleep' → (k : IsKick best words sweep asleep tour rest awake) →
    (k' : IsKick best' words sweep asleep' tour rest awake) × (k'.cuts ≡ k.cuts)
kick_at {best} {best'} {asleep} {asleep'} {tour} {awake} {words} {rest} {sweep} eb ea k =
    let P : List ℕ → List ℕ → Type 0 = λ b a. (k' : IsKick b words sweep a tour rest awake) × (k'.cuts ≡ k.cuts) in
    subst (P best') ea (subst (λ v. P v asleep) eb (k, refl))

-- after a trial, the best tour is shorter if the result was better, and otherwise has the same length
module _ {dist : ℕ → ℕ → ℕ} {near : ℕ → List ℕ} {rules : SearchRules} {from awake best new : List ℕ}
    {report : TrialReport} (h : IsTrial dist near rules from awake best new report) where
  pub shorter_best : report.better ≡ true → tour_length dist new < tour_length dist best
  shorter_best e =
      let is : IsTrue report.better = grind (arith, e) in
      subst (λ (v : List ℕ). tour_length dist v < tour_length dist best) (sym (h.replaced e)) (h.better.0 is)

  pub same_best : report.better ≡ false → tour_length dist new ≡ tour_length dist best
  same_best e = ap (tour_length dist) (h.kept e)

-- a kick wakes at most eight cities
pub few_ends : (asleep awake xs : List ℕ) (n : ℕ) (cuts : Cuts) → asleep ≡ [] →
    awake ≡ woken_each asleep (map (city_at xs) (end_places n cuts)) → length awake ≤ 8
few_ends asleep awake xs n cuts none e =
    let le : length (woken_each asleep (map (city_at xs) (end_places n cuts))) ≤ length asleep + 8 =
    woken_each-le (map (city_at xs) (end_places n cuts)) asleep in
    omega (arith, le, ap length e, ap length none)

-- with more cities awake, the bounds are not smaller
pub more_awake : (n width awake more : ℕ) (rules : SearchRules) (report : TrialReport) →
    (rules.sweep ≡ false → awake ≤ more) → IsBoundedTrial n width awake rules report →
    IsBoundedTrial n width more rules report
more_awake n width awake more rules report le h =
    let c : ℕ = 4 * rules.or_segment * width in
    let k : ℕ = 6 * report.descent.moves in
    record {
      moves = h.moves;
      swaps = h.swaps;
      passes = h.passes;
      looks = λ o. omega (arith, h.looks o, le o);
      tests = λ o.
          let least : awake + k ≤ more + k = omega (arith, le o) in
          let wide : c * (awake + k) ≤ c * (more + k) = mul-le-mul_left c least in
          let x : report.descent.tests ≤ c * (awake + k) = h.tests o in
          omega (arith, x, wide);
      swept_looks = h.swept_looks;
      swept_tests = h.swept_tests;
    }

-- the state after a trial, in terms of the state before it
pub record Leaves {S : Type 0} {u : undo.Ghosts S} {w : Ghosts S} (near : NearLists) (dist : ℕ → ℕ → ℕ)
    (rules : SearchRules) (s t : State S u w) (awake flips swaps : ℕ) (report : TrialReport) : Type 0 where
  pub size : length (best_of t.best) ≡ length (best_of s.best)
  pub slots : slots_of t.tour ≡ slots_of s.tour
  pub asleep : t.waking.queue ≡ []
  pub steps : AreTrueOf dist t.steps
  pub waking : t.waking.size ≡ s.waking.size
  pub at_best : IsAtBest t.tour t.best
  pub shortest : t.shortest ≡ pos (tour_length dist (best_of t.best))
  pub counts : AreCountsOf t.totals t.tour t.best
  pub adds : AddsTrial s.totals t.totals report (gain_of report)
  pub bounded : IsBoundedTrial (length (best_of s.best)) near.width awake rules report
  pub swapped : t.totals.swaps ≤ s.totals.swaps + length (best_of s.best) + report.descent.swaps
  pub settles : SettlesTrial (length (best_of s.best)) flips swaps s.totals t.totals report
  pub few : flips ≤ 4 + 3 * report.descent.moves
  pub less : report.better ≡ true → tour_length dist (best_of t.best) < tour_length dist (best_of s.best)
  pub same : report.better ≡ false → tour_length dist (best_of t.best) ≡ tour_length dist (best_of s.best)

module _ {S : Type 0} {u : undo.Ghosts S} {w : Ghosts S} {size : ℕ} {dist : ℕ → ℕ → ℕ} {near : NearLists}
    {rules : SearchRules} {s t : State S u w} {awake flips swaps : ℕ} {report : TrialReport}
    (h : IsSearching size dist near rules s) (k : Leaves near dist rules s t awake flips swaps report) where
  searches : (rules.sweep ≡ false →
      t.totals.tests ≤ 4 * rules.or_segment * near.width *
      (length (best_of s.best) + 8 * (t.totals.trials - 1) + 6 * t.totals.moves)) →
      IsSearching size dist near rules t
  searches tests = record {
    cities = h.cities ∙ sym k.size;
    lists = h.lists ∙ sym k.size;
    queue = k.waking ∙ h.queue ∙ sym k.size;
    asleep = k.asleep;
    steps = k.steps;
    segment = h.segment;
    at_best = k.at_best;
    slots = k.slots ∙ h.slots ∙ sym k.size;
    shortest = k.shortest;
    counts = k.counts;
    untried = λ e. absurd (omega (arith, e, k.adds.trials));
    bounds =
        subst (λ (v : ℕ). IsBounded v near.width rules (tour_length dist (best_of t.best)) t.totals) (sym k.size)
        (bounded_more k.adds h.bounds k.settles k.few k.swapped k.bounded k.less k.same tests);
  }

  -- the bound on the tests of the trial, if n cities were awake
  tests_of : (n : ℕ) → awake ≡ n → rules.sweep ≡ false →
      report.descent.tests ≤ 4 * rules.or_segment * near.width * (n + 6 * report.descent.moves)
  tests_of n e once =
      subst (λ (v : ℕ). report.descent.tests ≤ 4 * rules.or_segment * near.width * (v + 6 * report.descent.moves)) e
      (k.bounded.tests once)

  pub searches_first : s.totals.trials ≡ 0 → awake ≡ length (best_of s.best) → IsSearching size dist near rules t
  searches_first none all = searches (λ o. tests_first k.adds h.bounds (h.untried none) (tests_of _ all o))

  pub searches_kicked : 1 ≤ s.totals.trials → awake ≡ 8 → IsSearching size dist near rules t
  searches_kicked begun ends =
      searches (λ o. tests_kicked k.adds h.bounds begun (h.bounds.tests o) (tests_of 8 ends o))
