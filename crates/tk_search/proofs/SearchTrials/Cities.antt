-- Moves, kicks, trials and runs of trials keep the cities of a tour.
use Rattle.std.proofs.Common.{◌≡◌, ℕ, Bool, true, false, List, ◌++◌, length, refl, sym, ◌∙◌, subst, arith}
use Rattle.std.proofs.lemmas.List.{length-append}
use Rattle.rand_core.specs.Stream.{Stream}
use Rattle.tk_tour.specs.Tour.{IsTour}
use Rattle.tk_tour.proofs.DistinctCycles.{occurrences-append}
use Rattle.tk_descent.proofs.MovesOnTours.Cities.{made_cities}
use Rattle.tk_descent.proofs.MovesOnTours.Steps.{HasSameCities, cities-cycle}
use Rattle.tk_descent.specs.Machine.{Execution, start, asleep, move}
use Rattle.tk_descent.specs.Sweeps.{Moving, pass, start as unmoved, Sweeps}
use Rattle.tk_search.specs.Cuts.{AreCuts, bridged, part_a, part_b, part_c, part_d}
use Rattle.tk_search.specs.Descents.{Descends}
use Rattle.tk_search.specs.Searching.{Searching, NextTrial, first, kicked, none, SearchRun, begin, trial}
use Rattle.tk_search.specs.Trials.{IsKick, IsTrial}
use Rattle.tk_search.specs.declared.double_bridges.cuts.Cuts.{Cuts}
use Rattle.tk_search.specs.declared.trials.descending.SearchRules.{SearchRules}
use Rattle.tk_search.specs.declared.trials.totals.TrialReport.{TrialReport}
use Rattle.tk_search.proofs.DoubleBridge.Kicks.{parts_join}

pub cities-refl : (xs : List ℕ) → HasSameCities xs xs
cities-refl xs = (refl, λ c. refl)

pub cities-trans : (xs ys zs : List ℕ) → HasSameCities xs ys → HasSameCities ys zs → HasSameCities xs zs
cities-trans xs ys zs h k = (k.0 ∙ h.0, λ c. k.1 c ∙ h.1 c)

cities-sym : (xs ys : List ℕ) → HasSameCities xs ys → HasSameCities ys xs
cities-sym xs ys h = (sym h.0, λ c. sym (h.1 c))

module _ (dist : ℕ → ℕ → ℕ) (near : ℕ → List ℕ) (m : ℕ) (T W : List ℕ) where
  cities_run : {C V : List ℕ} {looks moves tests : ℕ} → Execution dist near m T W C V looks moves tests →
      HasSameCities T C
  cities_run start = cities-refl T
  cities_run (asleep r e) = cities_run r
  cities_run (move {C = C} {D = D} {o = o} r e made) = cities-trans T C D (cities_run r) (made_cities m o C D made)

module _ (dist : ℕ → ℕ → ℕ) (near : ℕ → List ℕ) (m : ℕ) (T : List ℕ) where
  cities_moving : {C : List ℕ} {passes looks moves tests : ℕ} → Moving dist near m T C passes looks moves tests →
      HasSameCities T C
  cities_moving unmoved = cities-refl T
  cities_moving (pass {C = C} {D = D} chain once some) =
      cities-trans T C D (cities_moving chain) (cities_run dist near m C _ once)

  pub cities_swept : {D : List ℕ} {passes looks moves tests : ℕ} → Sweeps dist near m T D passes looks moves tests →
      HasSameCities T D
  cities_swept {D = D} h = cities-trans T h.tour D (cities_moving h.chain) (cities_run dist near m h.tour _ h.last)

cities_descent : {dist : ℕ → ℕ → ℕ} {near : ℕ → List ℕ} {rules : SearchRules} {T W D : List ℕ}
    {passes looks moves tests : ℕ} → Descends dist near rules T W D passes looks moves tests → HasSameCities T D
cities_descent {dist} {near} {rules} {T} {W} {D} h = by rules.sweep refl
  where
    by : (b : Bool) → rules.sweep ≡ b → HasSameCities T D
    by true e = cities_swept dist near rules.or_segment T (h.swept e)
    by false e = cities_run dist near rules.or_segment T W (h.once e).0

-- the second part and the fourth are swapped
exchanged_parts : (a b c d : List ℕ) → HasSameCities (a ++ b ++ c ++ d) (a ++ d ++ c ++ b)
exchanged_parts a b c d = (
  omega (
    arith,
    length-append (a ++ b ++ c) d,
    length-append (a ++ b) c,
    length-append a b,
    length-append (a ++ d ++ c) b,
    length-append (a ++ d) c,
    length-append a d,
  ),
  λ x. omega (
    arith,
    occurrences-append x (a ++ b ++ c) d,
    occurrences-append x (a ++ b) c,
    occurrences-append x a b,
    occurrences-append x (a ++ d ++ c) b,
    occurrences-append x (a ++ d) c,
    occurrences-append x a d,
  ),
)

-- the parts of a kicked tour have the cities of the tour
cities_bridged : (xs : List ℕ) (cuts : Cuts) → AreCuts (length xs) cuts → HasSameCities xs (bridged cuts xs)
cities_bridged xs cuts are =
    subst (λ (v : List ℕ). HasSameCities v (bridged cuts xs)) (parts_join xs cuts are)
    (exchanged_parts (part_a cuts xs) (part_b cuts xs) (part_c cuts xs) (part_d cuts xs))

cities_kick : {best asleep tour awake : List ℕ} {words rest : Stream} {sweep : Bool} →
    IsKick best words sweep asleep tour rest awake → HasSameCities best tour
cities_kick {best = best} {tour = tour} h =
    cities-trans best (bridged h.cuts best) tour (cities_bridged best h.cuts h.are)
    (cities-sym tour (bridged h.cuts best) (cities-cycle tour (bridged h.cuts best) h.bridge))

-- the best tour after a trial has the same cities, if the trial starts from a tour of them
cities_trial : {dist : ℕ → ℕ → ℕ} {near : ℕ → List ℕ} {rules : SearchRules} {from awake best new : List ℕ}
    {report : TrialReport} → IsTrial dist near rules from awake best new report → HasSameCities best from →
    HasSameCities best new
cities_trial {from = from} {best = best} {new = new} {report = report} h same = by report.better refl
  where
    by : (b : Bool) → report.better ≡ b → HasSameCities best new
    by true e =
        subst (HasSameCities best) (sym (h.replaced e))
        (cities-trans best from h.found same (cities_descent h.descends))
    by false e = subst (HasSameCities best) (sym (h.kept e)) (cities-refl best)

pub cities_next : {old new : Searching} {words rest : Stream} {report : TrialReport} →
    NextTrial old words new rest report → HasSameCities old.best new.best
cities_next {old = old} (first untried h same) = cities_trial h.trial (cities-refl old.best)
cities_next (kicked tried many h) = cities_trial h.trial (cities_kick h.kick)
cities_next {old = old} (none tried few h stays same) =
    subst (λ (v : Searching). HasSameCities old.best v.best) (sym stays) (cities-refl old.best)

pub cities_after : {begun : Searching} {words : Stream} {t : ℕ} {search : Searching} {rest : Stream} →
    SearchRun begun words t search rest → HasSameCities begun.best search.best
cities_after {begun = begun} begin = cities-refl begun.best
cities_after {begun = begun} (trial {old = old} {new = new} run next) =
    cities-trans begun.best old.best new.best (cities_after run) (cities_next next)

pub tour_after : {begun : Searching} {words : Stream} {t : ℕ} {search : Searching} {rest : Stream} (n : ℕ) →
    SearchRun begun words t search rest → IsTour n begun.best → IsTour n search.best
tour_after n run h = let s = cities_after run in (s.0 ∙ h.0, λ c above most. s.1 c ∙ h.1 c above most)
