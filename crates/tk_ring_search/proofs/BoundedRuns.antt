-- The bounds on the work of runs of trials.
use Rattle.std.proofs.Common.{◌≡◌, ℕ, ◌+◌, ◌*◌, ◌/◌, ◌≤◌, Bool, true, false, List, length, refl, sym, ap}
use Rattle.std.proofs.Common.{◌∙◌, subst, arith}
use Rattle.std.specs.Prelude.{if◌then◌else◌}
use Rattle.std.proofs.Math.Nat.{mul-add, mul-le-mul_left}
use Rattle.std.proofs.lemmas.Int.{ints}
use Rattle.rand_core.specs.Stream.{Stream}
use Rattle.tk_descent.proofs.WakeExecutions.WokenQueue.{one_to-length}
use Rattle.tk_search.specs.Cuts.{kick_swaps}
use Rattle.tk_search.proofs.SearchTrials.Searches.{few_ends}
use Rattle.tk_tour.specs.Tour.{tour_length}
use Rattle.tk_ring_search.specs.Given.{Given}
use Rattle.tk_ring_search.specs.Judging.{IsSettled, limit_of}
use Rattle.tk_ring_search.specs.Kicks.{IsKick, read_from}
use Rattle.tk_ring_search.specs.Searching.{IsBegun, IsIdleTrial, IsKickedTrial, RingRun, RingSearching}
use Rattle.tk_ring_search.specs.Searching.{TrialCase, begin, idles, kicks, slots_for, trial}
use Rattle.tk_ring_search.specs.Totals.{AddsTrial, IsBounded, is_better, is_copied, is_kicked}
use Rattle.tk_ring_search.specs.declared.kicks.kick.Kick.{Kick}
use Rattle.tk_ring_search.specs.declared.trials.judging.Outcome.{Outcome}
use Rattle.tk_ring_search.specs.declared.trials.judging.Outcome.TheVariants.{Idle, Better, Kept, Undone, Restored}
use Rattle.tk_ring_search.specs.declared.trials.totals.RingTrial.{RingTrial}
use Rattle.tk_ring_search.proofs.TrialRuns.{descends_by, given_run, length_from, rings_run}

-- bounds by the same factor
at_most : (p x y t : ℕ) → t ≤ p * x → x ≤ y → t ≤ p * y
at_most p x y t h le = omega (arith, h, mul-le-mul_left p le)

add_most : (p x y z s t : ℕ) → s ≤ p * x → t ≤ p * y → x + y ≤ z → s + t ≤ p * z
add_most p x y z s t hs ht le = at_most p (x + y) z (s + t) (omega (arith, hs, ht, mul-add p x y)) le

few_swaps : (n : ℕ) (kick : Kick) → IsKick n kick → kick_swaps n kick.cuts ≤ 30
few_swaps n kick k = omega (arith, k.b, k.c, k.d, k.cuts.first, k.cuts.second, k.cuts.third, k.cuts.last)

copy_most : (o : Outcome) (n : ℕ) → (if is_copied o then n else 0) ≤ n
copy_most Idle n = omega arith
copy_most Better n = omega arith
copy_most Kept n = omega arith
copy_most Undone n = omega arith
copy_most Restored n = omega arith

module _ (dist : ℕ → ℕ → ℕ) (limit slots flips : ℕ) (ring best found : List ℕ) where
  settled_kicked : (o : Outcome) (nr nb : List ℕ) → IsSettled dist limit slots flips ring best found o nr nb →
      is_kicked o ≡ true
  settled_kicked Idle nr nb s = absurd s
  settled_kicked Better nr nb s = refl
  settled_kicked Kept nr nb s = refl
  settled_kicked Undone nr nb s = refl
  settled_kicked Restored nr nb s = refl

  settled_gains : (o : Outcome) (nr nb : List ℕ) → IsSettled dist limit slots flips ring best found o nr nb →
      tour_length dist nb + (if is_better o then 1 else 0) ≤ tour_length dist best
  settled_gains Idle nr nb s = absurd s
  settled_gains Better nr nb s = omega (arith, s.0, ap (tour_length dist) s.2)
  settled_gains Kept nr nb s = omega (arith, ap (tour_length dist) s.3)
  settled_gains Undone nr nb s = omega (arith, ap (tour_length dist) s.4)
  settled_gains Restored nr nb s = omega (arith, ap (tour_length dist) s.3)

module _ (given : Given) (n : ℕ) where
  abbrev per_look : ℕ
  per_look = 4 * given.or_segment * given.near.width

  bounded_begun : {start : List ℕ} {search : RingSearching} → IsBegun given start search → length start ≡ n →
      IsBounded given n (tour_length given.distance search.best) search.totals
  bounded_begun {start} {search} b e =
      let r = b.descends.reported in
      let size : length b.from.tour ≡ n = ap length b.tour ∙ e in
      let awake : length b.from.awake ≡ n = ap length b.awake ∙ one_to-length (length start) ∙ e in
      let t = search.totals in
      let looks : ℕ = if given.sweep then length b.from.tour * b.report.passes else length b.from.awake in
      record {
        tests = λ no. at_most per_look (looks + 6 * b.report.descent.moves) (n + 8 * t.kicks + 6 * t.moves) t.tests
            (omega (arith, r.tests_most, b.work.1))
            (omega (
              arith,
              ap (λ v. if v then length b.from.tour * b.report.passes else length b.from.awake) no,
              awake,
              b.work.0,
            ));
        swept = λ yes. at_most per_look (looks + 6 * b.report.descent.moves) (n * t.passes + 6 * t.moves) t.tests
            (omega (arith, r.tests_most, b.work.1))
            (omega (
              arith,
              ap (λ v. if v then length b.from.tour * b.report.passes else length b.from.awake) yes,
              ap (λ v. v * b.report.passes) size,
              ap (λ v. n * v) b.work.3,
              b.work.0,
            ));
        swaps = omega (
          arith,
          r.swaps_most,
          ap (λ v. 3 * (v / 4) * b.report.descent.moves) size,
          ap (λ v. 3 * (n / 4) * v) b.work.0,
          b.work.2,
        );
        kicks = omega (arith, b.none.1, b.none.0);
        draws = omega (arith, b.none.2, b.none.0);
        better = omega (
          arith,
          ints,
          b.start_is,
          b.none.3,
          ap (tour_length given.distance) b.best,
          ap (tour_length given.distance) b.tour,
          r.moves,
        );
        copied = omega (arith, b.none.4, ap (λ v. n * v) b.none.0);
      }

  module _ {old new : RingSearching} {words rest : Stream} {report : RingTrial} (same : old.given ≡ given)
      (size : length old.ring ≡ n) (few : report.draws ≤ 1000) where
    bounded_idle : AddsTrial (length old.ring) old.totals new.totals report → IsIdleTrial old words new rest report →
        IsBounded given n (tour_length given.distance old.best) old.totals →
        IsBounded given n (tour_length given.distance new.best) new.totals
    bounded_idle a h i =
        let kicks_in : ℕ = if is_kicked report.outcome then 1 else 0 in
        let better_in : ℕ = if is_better report.outcome then 1 else 0 in
        let copied_in : ℕ = if is_copied report.outcome then length old.ring else 0 in
        let kicks_are : kicks_in ≡ 0 =
        ap (λ o. if is_kicked o then 1 else 0) h.outcome in
        let better_are : better_in ≡ 0 =
        ap (λ o. if is_better o then 1 else 0) h.outcome in
        let copied_are : copied_in ≡ 0 =
        ap (λ o. if is_copied o then length old.ring else 0) h.outcome in
        let moves : new.totals.moves ≡ old.totals.moves = omega (arith, a.moves, h.counts.0) in
        let passes : new.totals.passes ≡ old.totals.passes = omega (arith, a.passes, h.counts.4) in
        record {
          tests = λ no. at_most per_look (n + 8 * old.totals.kicks + 6 * old.totals.moves)
              (n + 8 * new.totals.kicks + 6 * new.totals.moves) new.totals.tests
              (omega (arith, a.tests, h.counts.2, i.tests no))
              (omega (arith, moves, a.kicks));
          swept = λ yes. at_most per_look (n * old.totals.passes + 6 * old.totals.moves)
              (n * new.totals.passes + 6 * new.totals.moves) new.totals.tests
              (omega (arith, a.tests, h.counts.2, i.swept yes))
              (omega (arith, moves, ap (λ v. n * v) passes));
          swaps = omega (arith, h.same.2, i.swaps, ap (λ v. 3 * (n / 4) * v) moves, a.kicks);
          kicks = omega (arith, a.kicks, kicks_are, a.trials, i.kicks);
          draws = omega (arith, a.draws, few, a.trials, i.draws);
          better = omega (
            arith,
            ints,
            a.better,
            better_are,
            a.start,
            i.better,
            ap (tour_length given.distance) h.same.1,
          );
          copied = omega (
            arith,
            a.copied,
            copied_are,
            i.copied,
            ap (λ v. n * v) a.trials,
            mul-add n old.totals.trials 1,
          );
        }

    bounded_kicked : AddsTrial (length old.ring) old.totals new.totals report →
        IsKickedTrial old words new rest report → IsBounded given n (tour_length given.distance old.best) old.totals →
        IsBounded given n (tour_length given.distance new.best) new.totals
    bounded_kicked a h i =
        let k = h.descent in
        let d = descends_by given same h in
        let r = d.reported in
        let from : length k.from.tour ≡ n = length_from h ∙ size in
        let awake : length k.from.awake ≤ 8 =
        few_ends _ k.from.awake (read_from h.kick old.ring) (length old.ring) h.kick.cuts refl k.awake in
        let looks_in : ℕ = if given.sweep then length k.from.tour * report.passes else length k.from.awake in
        let looks : (b : Bool) → given.sweep ≡ b →
        looks_in ≡ (if b then length k.from.tour * report.passes else length k.from.awake) =
        λ b e. ap (λ v. if v then length k.from.tour * report.passes else length k.from.awake) e in
        let kicks_in : ℕ = if is_kicked report.outcome then 1 else 0 in
        let kicks_are : kicks_in ≡ 1 =
        ap (λ v. if v then 1 else 0)
        (settled_kicked old.given.distance
        (limit_of (tour_length old.given.distance old.best) old.totals.trials old.given.trials)
        (slots_for (length old.ring)) k.to.flips old.ring old.best k.to.tour report.outcome new.ring new.best
        k.settles) in
        let gains : tour_length given.distance new.best + (if is_better report.outcome then 1 else 0)
        ≤ tour_length given.distance old.best =
        subst (λ (v : Given). tour_length v.distance new.best + (if is_better report.outcome then 1 else 0)
        ≤ tour_length v.distance old.best) same
        (settled_gains old.given.distance
        (limit_of (tour_length old.given.distance old.best) old.totals.trials old.given.trials)
        (slots_for (length old.ring)) k.to.flips old.ring old.best k.to.tour report.outcome new.ring new.best
        k.settles) in
        record {
          tests = λ no. subst (λ v. v ≤ per_look * (n + 8 * new.totals.kicks + 6 * new.totals.moves)) (sym a.tests)
              (add_most per_look (n + 8 * old.totals.kicks + 6 * old.totals.moves) (looks_in + 6 *
              report.descent.moves) (n + 8 * new.totals.kicks + 6 * new.totals.moves) old.totals.tests
              report.descent.tests (i.tests no) r.tests_most
              (omega (arith, looks false no, awake, a.kicks, kicks_are, a.moves)));
          swept = λ yes. subst (λ v. v ≤ per_look * (n * new.totals.passes + 6 * new.totals.moves)) (sym a.tests)
              (add_most per_look (n * old.totals.passes + 6 * old.totals.moves) (looks_in + 6 * report.descent.moves)
              (n * new.totals.passes + 6 * new.totals.moves) old.totals.tests
              report.descent.tests (i.swept yes) r.tests_most
              (omega (
                arith,
                looks true yes,
                ap (λ v. v * report.passes) from,
                ap (λ v. n * v) a.passes,
                mul-add n old.totals.passes report.passes,
                a.moves,
              )));
          swaps = omega (
            arith,
            k.swaps_after,
            k.swaps_before,
            r.swaps,
            r.rises.1,
            r.swaps_most,
            ap (λ v. 3 * (v / 4) * report.descent.moves) from,
            i.swaps,
            few_swaps _ h.kick h.drawn.is_kick,
            a.kicks,
            kicks_are,
            ap (λ v. 3 * (n / 4) * v) a.moves,
            mul-add (3 * (n / 4)) old.totals.moves report.descent.moves,
          );
          kicks = omega (arith, a.kicks, kicks_are, a.trials, i.kicks);
          draws = omega (arith, a.draws, few, a.trials, i.draws);
          better = omega (arith, ints, a.better, a.start, i.better, gains);
          copied = omega (
            arith,
            a.copied,
            copy_most report.outcome (length old.ring),
            size,
            i.copied,
            ap (λ v. n * v) a.trials,
            mul-add n old.totals.trials 1,
          );
        }

pub bounded_run : (given : Given) (start : List ℕ) {begun : RingSearching} {words : Stream} {t : ℕ} {search :
    RingSearching} {rest : Stream} →
    IsBegun given start begun → RingRun begun words t search rest →
    IsBounded given (length start) (tour_length given.distance search.best) search.totals
bounded_run given start b begin = bounded_begun given (length start) b refl
bounded_run given start b (trial {old = old} {new = new} {left = left} {rest = rest} {report = report} run next) =
    by next.done (bounded_run given start b run)
  where
    by : TrialCase old left new rest report →
        IsBounded given (length start) (tour_length given.distance old.best) old.totals →
        IsBounded given (length start) (tour_length given.distance new.best) new.totals
    by (kicks h) = bounded_kicked given (length start) (given_run run ∙ b.given_is)
        (rings_run given start b run).0.0.0 next.few next.adds h
    by (idles h) = bounded_idle given (length start) (given_run run ∙ b.given_is)
        (rings_run given start b run).0.0.0 next.few next.adds h

pub no_longer_run : (given : Given) (start : List ℕ) {begun : RingSearching} {words : Stream} {t : ℕ} {search :
    RingSearching} {rest : Stream} →
    IsBegun given start begun → RingRun begun words t search rest →
    tour_length given.distance search.best ≤ tour_length given.distance start
no_longer_run given start {begun} b run =
    omega (arith, ints, (bounded_run given start b run).better, b.start_is, start_kept run)
  where
    start_kept : {words : Stream} {t : ℕ} {search : RingSearching} {rest : Stream} → RingRun begun words t search rest →
        search.totals.start ≡ begun.totals.start
    start_kept begin = refl
    start_kept (trial run next) = next.adds.start ∙ start_kept run
