-- What runs of trials keep, and the best tour after them.
use Rattle.std.proofs.Common.{◌≡◌, ℕ, ◌<◌, ◌≤◌, ⊎_elim, Bool, true, false, List, [], ◌∷◌, ◌++◌, refl, sym, ap, ◌∙◌}
use Rattle.std.proofs.Common.{subst, arith, append_assoc, append-nil}
use Rattle.std.specs.Prelude.{IsTrue}
use Rattle.std.specs.List.{All}
use Rattle.std.proofs.lemmas.Bool.{cases_lt}
use Rattle.std.proofs.lemmas.List.Elements.{All-append, All-cons, All-nil}
use Rattle.rand_core.specs.Stream.{Stream}
use Rattle.tk_tour.specs.Tour.{tour_length}
use Rattle.tk_search.specs.Searching.{Searching, SameGiven, NextTrial, first, kicked, none, SearchRun, begin, trial}
use Rattle.tk_search.specs.SearchLaws.{found_by, found_in, IsFirstShortest}
use Rattle.tk_search.specs.Trials.{IsTrial}
use Rattle.tk_search.specs.declared.trials.descending.SearchRules.{SearchRules}
use Rattle.tk_search.specs.declared.trials.totals.TrialReport.{TrialReport}

-- the input of a search does not change
pub given_next : {old new : Searching} {words rest : Stream} {report : TrialReport} →
    NextTrial old words new rest report → SameGiven old new
given_next (first untried h same) = h.given
given_next (kicked tried many h) = h.given
given_next (none tried few h stays same) =
    record { distance = ap (λ s. s.distance) stays; near = ap (λ s. s.near) stays; rules = ap (λ s. s.rules) stays }

pub given_run : {begun : Searching} {words : Stream} {t : ℕ} {search : Searching} {rest : Stream} →
    SearchRun begun words t search rest → SameGiven begun search
given_run begin = record { distance = refl; near = refl; rules = refl }
given_run (trial run next) =
    let i = given_run run in
    let k = given_next next in
    record { distance = k.distance ∙ i.distance; near = k.near ∙ i.near; rules = k.rules ∙ i.rules }

-- the best tour after a trial is the first of the shortest, if it was before
module _ {dist : ℕ → ℕ → ℕ} {near : ℕ → List ℕ} {rules : SearchRules} {from awake old new : List ℕ}
    {report : TrialReport} (h : IsTrial dist near rules from awake old new report) (tours : List (List ℕ))
    (f : IsFirstShortest dist tours old) where
  replaced_first : report.better ≡ true → IsFirstShortest dist (tours ++ h.found ∷ []) new
  replaced_first e =
      let is : IsTrue report.better = grind (arith, e) in
      let less : tour_length dist h.found < tour_length dist old = h.better.0 is in
      let Longer : List ℕ → Type 0 = λ tour. tour_length dist h.found < tour_length dist tour in
      let front : All Longer f.before = λ k d lt. omega (arith, less, f.longer k d lt) in
      let back : All Longer f.behind = λ k d lt. omega (arith, less, f.least k d lt) in
      let all : All Longer (f.before ++ old ∷ f.behind) =
      All-append Longer f.before (old ∷ f.behind) front (All-cons Longer old f.behind less back) in
      subst (IsFirstShortest dist (tours ++ h.found ∷ [])) (sym (h.replaced e)) (record {
        before = tours;
        behind = [];
        stands = refl;
        longer = subst (All Longer) (sym f.stands) all;
        least = All-nil _;
      })

  kept_first : report.better ≡ false → IsFirstShortest dist (tours ++ h.found ∷ []) new
  kept_first e =
      let least : tour_length dist old ≤ tour_length dist h.found =
      ⊎_elim (λ (lt : tour_length dist h.found < tour_length dist old). absurd (grind (arith, e, h.better.1 lt)))
      (λ (le : tour_length dist old ≤ tour_length dist h.found). le)
      (cases_lt (tour_length dist h.found) (tour_length dist old)) in
      let Least : List ℕ → Type 0 = λ tour. tour_length dist old ≤ tour_length dist tour in
      subst (IsFirstShortest dist (tours ++ h.found ∷ [])) (sym (h.kept e)) (record {
        before = f.before;
        behind = f.behind ++ h.found ∷ [];
        stands = ap (λ v. v ++ h.found ∷ []) f.stands ∙ append_assoc f.before (old ∷ f.behind) (h.found ∷ []);
        longer = f.longer;
        least = All-append Least f.behind (h.found ∷ []) f.least (All-cons Least h.found [] least (All-nil _));
      })

  trial_first : (b : Bool) → report.better ≡ b → IsFirstShortest dist (tours ++ h.found ∷ []) new
  trial_first true e = replaced_first e
  trial_first false e = kept_first e

first_next : {old new : Searching} {words rest : Stream} {report : TrialReport}
    (next : NextTrial old words new rest report) (tours : List (List ℕ)) →
    IsFirstShortest old.distance tours old.best → IsFirstShortest old.distance (tours ++ found_by next) new.best
first_next {report = report} (first untried h same) tours f = trial_first h.trial tours f report.better refl
first_next {report = report} (kicked tried many h) tours f = trial_first h.trial tours f report.better refl
first_next {old = old} {new = new} (none tried few h stays same) tours f =
    subst (IsFirstShortest old.distance (tours ++ [])) (sym (ap (λ s. s.best) stays))
    (subst (λ (v : List (List ℕ)). IsFirstShortest old.distance v old.best) (sym (append-nil tours)) f)

pub first_run : {begun : Searching} {words : Stream} {t : ℕ} {search : Searching} {rest : Stream}
    (run : SearchRun begun words t search rest) → IsFirstShortest begun.distance (begun.best ∷ found_in run) search.best
first_run {begun = begun} begin =
    record { before = []; behind = []; stands = refl; longer = All-nil _; least = All-nil _ }
first_run {begun = begun} (trial {old = old} {new = new} run next) =
    let P : (ℕ → ℕ → ℕ) → Type 0 = λ v. IsFirstShortest v (begun.best ∷ found_in run) old.best in
    let Q : (ℕ → ℕ → ℕ) → Type 0 = λ v. IsFirstShortest v (begun.best ∷ (found_in run ++ found_by next)) new.best in
    let same = (given_run run).distance in
    subst Q same (first_next next (begun.best ∷ found_in run) (subst P (sym same) (first_run run)))

-- the first of the shortest is not longer than the first of all
no_longer : (dist : ℕ → ℕ → ℕ) (from best : List ℕ) (tours before behind : List (List ℕ)) →
    from ∷ tours ≡ before ++ best ∷ behind → All (λ tour. tour_length dist best < tour_length dist tour) before →
    tour_length dist best ≤ tour_length dist from
no_longer dist from best tours [] behind e longer = let same : from ≡ best = cc in
    omega (arith, ap (tour_length dist) same)
no_longer dist from best tours (x ∷ xs) behind e longer = let same : from ≡ x = cc in
    omega (arith, ap (tour_length dist) same, longer 0 x (omega arith))

pub no_longer_run : {begun : Searching} {words : Stream} {t : ℕ} {search : Searching} {rest : Stream} →
    SearchRun begun words t search rest →
    tour_length begun.distance search.best ≤ tour_length begun.distance begun.best
no_longer_run {begun = begun} {search = after} run = let f = first_run run in
    no_longer begun.distance begun.best after.best (found_in run) f.before f.behind f.stands f.longer
