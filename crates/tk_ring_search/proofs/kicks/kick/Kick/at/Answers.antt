use Rattle.std.proofs.Common.{ℕ, List, ◌-◌, length, arith, subst, sym}
use Rattle.tk_distance.specs.Cities.{IsCity}
use Rattle.tk_tour.proofs.Tours.{city_in_range}
use Rattle.tk_ring_search.proofs.kicks.kick.Kick.at.Goals as goal
use Rattle.tk_ring_search.proofs.kicks.kick.Kick.at.Goals.{then-place-n, else-place-n}

pub returns-clause-city : goal.returns-clause-city
returns-clause-city g c =
    let C : List ℕ = g.S.TourStore.cities c.args.ring.now in
    let at : IsCity (length C) c.if-place-n.at = elim c.if-place-n.branch [
      | then-place-n w ↦ (omega arith, omega arith)
      | else-place-n w ↦ (omega arith, omega arith)
    ] in
    let r = city_in_range (length C) C (c.if-place-n.at - 1) (g.met.S.TourStore.is_tour c.args.ring.now).2
    (omega (arith, at)) in
    let P : ℕ → Type 0 = λ v. IsCity (length C) v in
    subst P (sym c.at.ensures) (r.0, r.1)
