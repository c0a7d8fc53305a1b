use Rattle.std.proofs.Common.{◌≡◌, ◌∙◌, ℕ, List, All, ap, arith, pos, refl, rules, subst, sym}
use Rattle.std.specs.Prelude.{vec_len}
use Rattle.std.proofs.lemmas.Bool.{eqb-true}
use Rattle.std.proofs.lemmas.Int.{ints}
use Rattle.std.proofs.lemmas.List.{nil_from_length}
use Rattle.tk_distance.specs.Cities.{IsCity}
use Rattle.tk_search.specs.SearchOf.{search_of}
use Rattle.tk_tour.specs.Tour.{tour_length}
use Rattle.tk_tour.proofs.CitiesOfTours.{cities_of_tour}
use Rattle.tk_solve.specs.declared.outcome.Outcome.{Outcome}
use Rattle.tk_solve.proofs.outcome.Outcome.take.Goals.{then-is_empty+in_ok-extend_from_slice}
use Rattle.tk_solve.proofs.outcome.Outcome.take.Goals.{then-is_empty-via-then-is_empty}
use Rattle.tk_solve.proofs.outcome.Outcome.take.Goals.{then-is_empty-via-else-is_empty+then-best-self}
use Rattle.tk_solve.proofs.outcome.Outcome.take.Goals.{else-is_empty+else-best-self}
use Rattle.tk_solve.proofs.outcome.Outcome.take.Goals as goal

pub length-best-requires-clause-cities : goal.length-best-requires-clause-cities
length-best-requires-clause-cities g c =
    let size = g.M.Metric.size_of c.args.metric.now in
    let P : List ℕ → Type 0 = λ u. All (IsCity size) u in
    subst P (sym c.best.ensures) (cities_of_tour size size (search_of c.args.search.now).best refl c.requires.tour)

pub returns-clause-kept : goal.returns-clause-kept
returns-clause-kept g c = λ some low.
    let d = g.M.Metric.distance c.args.metric.now in
    let best_is : c.length-best.result ≡ pos (tour_length d (search_of c.args.search.now).best) =
    c.length-best.ensures ∙ ap (λ tour. pos (tour_length d tour)) c.best.ensures in
    elim c.if-is_empty.branch [
      | then-is_empty+in_ok-extend_from_slice w ↦
          elim w.then-is_empty.branch [
            | then-is_empty-via-then-is_empty w' ↦
                let none : vec_len c.args.self.now.reports ≡ 0 =
                eqb-true _ 0 (sym c.is_empty.ensures ∙ w'.if-is_empty.true) in
                absurd (some (nil_from_length _ (search (rules, none))))
            | then-is_empty-via-else-is_empty+then-best-self w' ↦
                absurd (omega (arith, ints, w'.if-best-self.true, low, best_is))
          ]
      | else-is_empty+else-best-self w ↦ (
        ap (λ (kept : Outcome). kept.cities) w.self-is,
        ap (λ (kept : Outcome). kept.shortest) w.self-is,
      )
    ]
