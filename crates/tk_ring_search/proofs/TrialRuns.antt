-- What runs of trials keep.
use Rattle.std.proofs.Common.{◌≡◌, ℕ, ◌+◌, ◌-◌, ◌≤◌, true, List, ◌++◌, length}
use Rattle.std.proofs.Common.{inl, inr}
use Rattle.std.proofs.Common.{reverse, refl, sym, ap, ◌∙◌, subst, arith}
use Rattle.std.proofs.lemmas.List.{length-append, length-reverse}
use Rattle.rand_core.specs.Stream.{Stream}
use Rattle.tk_descent.specs.Descents.{DescentState}
use Rattle.tk_descent.specs.declared.descent.Report.{Report}
use Rattle.tk_descent.proofs.MovesOnTours.Steps.{length-rotation}
use Rattle.tk_search.specs.Cuts.{AreCuts, part_a, part_b, part_c, part_d}
use Rattle.tk_search.proofs.DoubleBridge.Kicks.{parts_join}
use Rattle.tk_tour.specs.Tour.{IsTour, SameCycle, tour_length}
use Rattle.tk_tour.proofs.StoredTours.Places.{length-begun_at}
use Rattle.tk_ring_search.specs.Descents.{DescendsRing}
use Rattle.tk_ring_search.specs.Given.{Given}
use Rattle.tk_ring_search.specs.Judging.{limit_of}
use Rattle.tk_ring_search.specs.Kicks.{IsKick, kicked, read_from}
use Rattle.tk_ring_search.specs.RingLaws.{AreAlike, IsOptimal, IsRing}
use Rattle.tk_ring_search.specs.Searching.{IsBegun, IsKickedTrial, NextTrial, RingRun}
use Rattle.tk_ring_search.specs.Searching.{RingSearching, TrialCase, begin, idles, kicks, slots_for, trial}
use Rattle.tk_ring_search.specs.declared.kicks.kick.Kick.{Kick}
use Rattle.tk_ring_search.specs.declared.trials.totals.RingTrial.{RingTrial}
use Rattle.tk_ring_search.proofs.TrialResults.{kept}

length-same : (xs ys : List ℕ) → SameCycle xs ys → length ys ≡ length xs
length-same xs ys (inl r) = length-rotation xs ys r
length-same xs ys (inr r) = sym (length-reverse ys) ∙ length-rotation xs (reverse ys) r

-- a kick keeps the number of elements
length-kicked : (ring : List ℕ) (kick : Kick) → IsKick (length ring) kick → length (kicked kick ring) ≡ length ring
length-kicked ring kick are =
    let R : List ℕ = read_from kick ring in
    let size : length R ≡ length ring = length-begun_at (kick.first - 1) ring in
    let cuts : AreCuts (length R) kick.cuts = subst (λ n. AreCuts n kick.cuts) (sym size) are.cuts in
    let A : List ℕ = part_a kick.cuts R in
    let B : List ℕ = part_b kick.cuts R in
    let M : List ℕ = part_c kick.cuts R in
    let D : List ℕ = part_d kick.cuts R in
    omega (
      arith,
      size,
      ap length (parts_join R kick.cuts cuts),
      length-append ((A ++ B) ++ M) D,
      length-append (A ++ B) M,
      length-append A B,
      length-append ((A ++ D) ++ M) B,
      length-append (A ++ D) M,
      length-append A D,
    )

-- what the rings before a trial and the ring that it finds have, those after it have
kept_next : {old new : RingSearching} {words rest : Stream} {report : RingTrial} (P : List ℕ → Type 0) →
    NextTrial old words new rest report → ((h : IsKickedTrial old words new rest report) → P h.descent.to.tour) →
    P old.ring → P old.best → P new.ring × P new.best
kept_next {old} {new} {words} {rest} {report} P next found ring best = by next.done
  where
    by : TrialCase old words new rest report → P new.ring × P new.best
    by (kicks h) =
        kept old.given.distance
        (limit_of (tour_length old.given.distance old.best) old.totals.trials old.given.trials)
        (slots_for (length old.ring)) h.descent.to.flips old.ring old.best h.descent.to.tour P ring best (found h)
        report.outcome new.ring new.best h.descent.settles
    by (idles h) = (subst P (sym h.same.0) ring, subst P (sym h.same.1) best)

-- the input of a search does not change
pub given_run : {begun : RingSearching} {words : Stream} {t : ℕ} {search : RingSearching} {rest : Stream} → RingRun
    begun words t search rest →
    search.given ≡ begun.given
given_run begin = refl
given_run (trial run next) = next.given ∙ given_run run

-- the descent of a trial, by the input of the search
pub descends_by : (given : Given) {old new : RingSearching} {words rest : Stream} {report : RingTrial} → old.given ≡
    given →
    (h : IsKickedTrial old words new rest report) →
    DescendsRing given h.descent.from h.descent.to report.descent report.passes
descends_by given {report = report} same h =
    let P : Given → Type 0 = λ v. DescendsRing v h.descent.from h.descent.to report.descent report.passes in
    subst P same h.descent.descends

pub length_from : {old new : RingSearching} {words rest : Stream} {report : RingTrial} →
    (h : IsKickedTrial old words new rest report) → length h.descent.from.tour ≡ length old.ring
length_from {old} h =
    sym (length-same h.descent.from.tour (kicked h.kick old.ring) h.descent.tour)
    ∙ length-kicked old.ring h.kick h.drawn.is_kick

-- what each descent leads to, the rings of a search have
module _ (given : Given) (start : List ℕ) (P : List ℕ → Type 0)
    (leads : (from to : DescentState) (report : Report) (passes : ℕ) → DescendsRing given from to report passes →
    length from.tour ≡ length start → P to.tour) where
  abbrev Has : List ℕ → Type 0
  Has v = (length v ≡ length start) × P v

  has_found : (from to : DescentState) (report : Report) (passes : ℕ) → DescendsRing given from to report passes →
      length from.tour ≡ length start → Has to.tour
  has_found from to report passes d e = (d.tour.0 ∙ e, leads from to report passes d e)

  pub kept_run : {begun : RingSearching} {words : Stream} {t : ℕ} {search : RingSearching} {rest : Stream} → IsBegun
      given start begun →
      RingRun begun words t search rest → Has search.ring × Has search.best
  kept_run b begin =
      let has = has_found b.from b.to b.report.descent b.report.passes b.descends (ap length b.tour) in
      (subst Has (sym b.ring) has, subst Has (sym b.best) has)
  kept_run b (trial {report = report} run next) =
      let i = kept_run b run in
      kept_next Has next
      (λ h. has_found h.descent.from h.descent.to report.descent report.passes
      (descends_by given (given_run run ∙ b.given_is) h) (length_from h ∙ i.0.0)) i.0 i.1

pub rings_run : (given : Given) (start : List ℕ) {begun : RingSearching} {words : Stream} {t : ℕ} {search :
    RingSearching} {rest : Stream} →
    IsBegun given start begun → RingRun begun words t search rest →
    IsRing given (length start) search.ring × IsRing given (length start) search.best
rings_run given start b run =
    let i = kept_run given start (IsRing given (length start))
    (λ from to report passes d e. (subst (λ n. IsTour n to.tour) e d.tour, d.fitting)) b run in
    (i.0.1, i.1.1)

pub optimal_run : (given : Given) (start : List ℕ) {begun : RingSearching} {words : Stream} {t : ℕ} {search :
    RingSearching} {rest : Stream} →
    IsBegun given start begun → RingRun begun words t search rest → given.sweep ≡ true →
    IsOptimal given search.ring × IsOptimal given search.best
optimal_run given start b run swept =
    let i = kept_run given start (IsOptimal given) (λ from to report passes d e. (d.swept swept).optimum) b run in
    (i.0.1, i.1.1)

pub counted_run : (given : Given) (start : List ℕ) {begun : RingSearching} {words : Stream} {t : ℕ} {search :
    RingSearching} {rest : Stream} →
    IsBegun given start begun → RingRun begun words t search rest → (search.totals.trials ≡ t) × (t ≤ given.trials)
counted_run given start b begin = (b.none.0, omega arith)
counted_run given start b (trial run next) =
    let i = counted_run given start b run in
    let e : _ ≡ given.trials = ap (λ (v : Given). v.trials) (given_run run ∙ b.given_is) in
    (omega (arith, next.adds.trials, i.0), omega (arith, next.left, e, i.0))

pub agree : (old new : RingSearching) (words rest : Stream) (r s : RingTrial) → NextTrial old words new rest r →
    NextTrial old words new rest s → AreAlike r s
agree old new words rest r s a b = record {
  draws = omega (arith, a.adds.draws, b.adds.draws);
  passes = omega (arith, a.adds.passes, b.adds.passes);
  moves = omega (arith, a.adds.moves, b.adds.moves);
  tests = omega (arith, a.adds.tests, b.adds.tests);
}
