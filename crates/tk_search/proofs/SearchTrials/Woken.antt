-- The cities that a kick wakes.
use Rattle.std.proofs.Common.{◌≡◌, ℕ, suc, zero, ◌+◌, ◌-◌, ◌<◌, ◌≤◌, List, length, map, get_or, sym, subst, arith}
use Rattle.std.specs.List.{All}
use Rattle.tk_distance.specs.Cities.{IsCity, city_at}
use Rattle.tk_tour.specs.Tour.{IsTour}
use Rattle.tk_tour.proofs.Tours.{city_in_range}
use Rattle.tk_search.specs.Cuts.{AreCuts, end_places}
use Rattle.tk_search.specs.declared.double_bridges.cuts.Cuts.{Cuts}

-- the first and the last city of each part are cities of the tour
module _ (xs : List ℕ) (cuts : Cuts) (tour : IsTour (length xs) xs) (are : AreCuts (length xs) cuts) where
  at : (p : ℕ) → 1 ≤ p → p ≤ length xs → IsCity (length xs) (city_at xs p)
  at p low high = let r = city_in_range (length xs) xs (p - 1) tour (omega arith) in (r.0, r.1)

  each : (k d : ℕ) → k < 8 → IsCity (length xs) (get_or (map (city_at xs) (end_places (length xs) cuts)) k d)
  each zero d lt = at 1 (omega arith) (omega (arith, are.first, are.second, are.third, are.last))
  each (suc zero) d lt = at cuts.p are.first (omega (arith, are.second, are.third, are.last))
  each (suc (suc zero)) d lt = at (cuts.p + 1) (omega arith) (omega (arith, are.second, are.third, are.last))
  each (suc (suc (suc zero))) d lt = at cuts.q (omega (arith, are.second)) (omega (arith, are.third, are.last))
  each (suc (suc (suc (suc zero)))) d lt = at (cuts.q + 1) (omega arith) (omega (arith, are.third, are.last))
  each (suc (suc (suc (suc (suc zero))))) d lt = at cuts.r (omega (arith, are.third)) (omega (arith, are.last))
  each (suc (suc (suc (suc (suc (suc zero)))))) d lt = at (cuts.r + 1) (omega arith) (omega (arith, are.last))
  each (suc (suc (suc (suc (suc (suc (suc zero))))))) d lt = at (length xs) (omega (arith, are.last)) (omega arith)
  each (suc (suc (suc (suc (suc (suc (suc (suc k)))))))) d lt = absurd (omega arith)

pub ends_are_cities : (xs ends : List ℕ) (n m : ℕ) → IsTour (length xs) xs → (cuts : Cuts) → m ≡ length xs →
    AreCuts m cuts → ends ≡ map (city_at xs) (end_places (length xs) cuts) → length xs ≡ n → All (IsCity n) ends
ends_are_cities xs ends n m tour cuts em are e size =
    let P : List ℕ → Type 0 = λ v. All (IsCity n) v in
    let Q : ℕ → Type 0 = λ v. All (IsCity v) (map (city_at xs) (end_places (length xs) cuts)) in
    let R : ℕ → Type 0 = λ v. AreCuts v cuts in
    subst P (sym e) (subst Q size (λ k d lt. each xs cuts tour (subst R em are) k d lt))
