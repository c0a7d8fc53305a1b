-- The counters after runs of trials.
use Rattle.std.proofs.Common.{◌≡◌, ℕ, ◌+◌, ◌<◌, ◌≤◌, ⊎_elim, inl, inr, length, refl, sym, ap, ◌∙◌, subst, arith}
use Rattle.std.specs.Prelude.{◌⊎◌}
use Rattle.std.proofs.lemmas.Int.{ints}
use Rattle.rand_core.specs.Stream.{Stream}
use Rattle.tk_near.specs.Near.{NearLists}
use Rattle.tk_tour.specs.Tour.{tour_length}
use Rattle.tk_search.specs.Searching.{Searching, IsBegun, IsBoundedSearch, NextTrial, first, kicked, none, SameGiven}
use Rattle.tk_search.specs.Searching.{SearchRun, begin, trial}
use Rattle.tk_search.specs.Totals.{IsBounded, capped}
use Rattle.tk_search.specs.declared.trials.descending.SearchRules.{SearchRules}
use Rattle.tk_search.specs.declared.trials.totals.TrialReport.{TrialReport}
use Rattle.tk_search.proofs.DoubleBridge.KickSwaps.{kick_few}
use Rattle.tk_search.proofs.SearchTrials.Bounds.{bounded_more, tests_first, tests_kicked}
use Rattle.tk_search.proofs.SearchTrials.Cities.{cities_after, cities_next}
use Rattle.tk_search.proofs.SearchTrials.Searches.{same_best, shorter_best}

bounded_begun : (begun : Searching) → IsBegun begun begun.distance begun.near begun.rules begun.best →
    IsBoundedSearch begun
bounded_begun begun h = record {
  tests = λ o. omega (arith, h.none.3);
  swept = λ o. omega (arith, h.none.3);
  swaps = omega (arith, h.none.4);
  undo_swaps = omega (arith, h.none.5);
  moves = omega (arith, h.none.1);
  better = omega (arith, ints, h.none.0, h.length_is);
  copied = omega (arith, h.none.6);
}

-- the bounds hold after a trial, which changes neither the input of the search nor the number of cities
bounded_given : (old new : Searching) → SameGiven old new → length new.best ≡ length old.best →
    IsBounded (length old.best) old.near.width old.rules (tour_length old.distance new.best) new.totals →
    IsBoundedSearch new
bounded_given old new g size h =
    let B : ℕ → NearLists → SearchRules → (ℕ → ℕ → ℕ) → Type 0 = λ n lists rules dist.
    IsBounded n lists.width rules (tour_length dist new.best) new.totals in
    subst (B (length new.best) new.near new.rules) (sym g.distance)
    (subst (λ v. B (length new.best) new.near v old.distance) (sym g.rules)
    (subst (λ v. B (length new.best) v old.rules old.distance) (sym g.near)
    (subst (λ v. B v old.near old.rules old.distance) (sym size) h)))

-- the work so far is bounded, and before the first trial no gains have been tested
record IsWithin (search : Searching) : Type 0 where
  bounds : IsBoundedSearch search
  untried : search.totals.trials ≡ 0 → search.totals.tests ≡ 0

within_next : {old new : Searching} {words rest : Stream} {report : TrialReport} → NextTrial old words new rest report →
    IsWithin old → IsWithin new
within_next {old = old} {new = new} (first untried h same) w =
    let b = bounded_more h.adds w.bounds h.settles (omega (arith, h.trial.few)) (omega (arith, h.swaps)) h.bounded
    (shorter_best h.trial) (same_best h.trial)
    (λ o. tests_first h.adds w.bounds (w.untried untried) (h.bounded.tests o)) in
    record {
      bounds = bounded_given old new h.given (cities_next (first untried h same)).0 b;
      untried = λ e. absurd (omega (arith, e, h.adds.trials));
    }
within_next {old = old} {new = new} (kicked tried many h) w =
    let b = bounded_more h.adds w.bounds h.settles (omega (arith, h.trial.few))
    (omega (arith, h.swaps, kick_few (length old.best) h.kick.cuts)) h.bounded (shorter_best h.trial)
    (same_best h.trial) (λ o. tests_kicked h.adds w.bounds tried (w.bounds.tests o) (h.bounded.tests o)) in
    record {
      bounds = bounded_given old new h.given (cities_next (kicked tried many h)).0 b;
      untried = λ e. absurd (omega (arith, e, h.adds.trials));
    }
within_next (none tried few h stays same) w = subst IsWithin (sym stays) w

within_run : {begun : Searching} {words : Stream} {t : ℕ} {search : Searching} {rest : Stream} →
    SearchRun begun words t search rest → IsWithin begun → IsWithin search
within_run begin w = w
within_run (trial run next) w = within_next next (within_run run w)

pub bounded_run : {begun : Searching} {words : Stream} {t : ℕ} {search : Searching} {rest : Stream} →
    SearchRun begun words t search rest →
    IsBegun begun begun.distance begun.near begun.rules begun.best → IsBoundedSearch search
bounded_run {begun = begun} run h =
    (within_run run (record { bounds = bounded_begun begun h; untried = λ e. h.none.3 })).bounds

-- each trial is counted if there are at least 8 cities
counted_next : {old new : Searching} {words rest : Stream} {report : TrialReport} (t : ℕ) →
    NextTrial old words new rest report → old.totals.trials ≡ capped t → 8 ≤ length old.best →
    new.totals.trials ≡ capped (t + 1)
counted_next t (first untried h same) was many = omega (arith, h.adds.trials, was)
counted_next t (kicked tried big h) was many = omega (arith, h.adds.trials, was)
counted_next t (none tried few h stays same) was many = absurd (omega (arith, few, many))

pub counted_run : {begun : Searching} {words : Stream} {t : ℕ} {search : Searching} {rest : Stream} →
    SearchRun begun words t search rest →
    begun.totals.trials ≡ 0 → 8 ≤ length begun.best → search.totals.trials ≡ capped t
counted_run begin untried many = omega (arith, untried)
counted_run (trial {t = t} run next) untried many =
    counted_next t next (counted_run run untried many) (omega (arith, many, (cities_after run).0))

-- on fewer than 8 cities: no trial so far, and below at least one, which are equivalent to one
record AreNone (begun : Searching) (words : Stream) (t : ℕ) (after : Searching) (rest : Stream) : Type 0 where
  zero_trials : t ≡ 0
  search_is : after ≡ begun
  words_are : rest ≡ words

record AreOne (begun : Searching) (words : Stream) (after : Searching) (rest : Stream) : Type 0 where
  run : SearchRun begun words 1 after words
  counted : after.totals.trials ≡ 1
  words_are : rest ≡ words

first_one : {begun new : Searching} {words rest : Stream} {report : TrialReport} →
    NextTrial begun words new rest report → begun.totals.trials ≡ 0 → AreOne begun words new rest
first_one {new = new} {words = words} (first untried h same) e =
    record { run = trial begin (first untried h refl); counted = omega (arith, h.adds.trials, e); words_are = same }
first_one (kicked tried many h) e = absurd (omega (arith, tried, e))
first_one (none tried few h stays same) e = absurd (omega (arith, tried, e))

still_one : {begun old new : Searching} {words left rest : Stream} {report : TrialReport} →
    NextTrial old left new rest report → AreOne begun words old left → length old.best < 8 → AreOne begun words new rest
still_one (first untried h same) one few = absurd (omega (arith, untried, one.counted))
still_one (kicked tried many h) one few = absurd (omega (arith, many, few))
still_one {begun = begun} {words = words} {rest = rest} (none tried few' h stays same) one few =
    let P : Searching → Type 0 = λ v. SearchRun begun words 1 v words in
    record {
      run = subst P (sym stays) one.run;
      counted = ap (λ v. v.totals.trials) stays ∙ one.counted;
      words_are = same ∙ one.words_are;
    }

few_run : {begun : Searching} {words : Stream} {t : ℕ} {search : Searching} {rest : Stream} →
    SearchRun begun words t search rest → begun.totals.trials ≡ 0 → length begun.best < 8 →
    AreNone begun words t search rest ⊎ AreOne begun words search rest
few_run begin untried few = inl (record { zero_trials = refl; search_is = refl; words_are = refl })
few_run {begun = begun} {words = words}
    (trial {old = old} {new = new} {left = left} {rest = rest} {report = report} run next) untried few =
    ⊎_elim
    (λ (no : AreNone begun words _ old left).
    let P : Searching → Type 0 = λ v. NextTrial v left new rest report in
    let Q : Stream → Type 0 = λ v. NextTrial begun v new rest report in
    inr (first_one (subst Q no.words_are (subst P no.search_is next)) untried))
    (λ (one : AreOne begun words old left). inr (still_one next one (omega (arith, few, (cities_after run).0))))
    (few_run run untried few)

pub one_trial : {begun : Searching} {words : Stream} {t : ℕ} {search : Searching} {rest : Stream} →
    SearchRun begun words t search rest → begun.totals.trials ≡ 0 → length begun.best < 8 → 1 ≤ t →
    SearchRun begun words 1 search words × (search.totals.trials ≡ 1) × (rest ≡ words)
one_trial {begun = begun} {words = words} {t = t} {search = after} {rest = rest} run untried few some =
    ⊎_elim
    (λ (no : AreNone begun words t after rest). absurd (omega (arith, some, no.zero_trials)))
    (λ (one : AreOne begun words after rest). (one.run, one.counted, one.words_are))
    (few_run run untried few)
