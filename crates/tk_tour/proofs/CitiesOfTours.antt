-- The cities of a tour.
use Rattle.std.proofs.Common.{◌≡◌, ℕ, List, All, arith}
use Rattle.std.proofs.lemmas.List.Elements.{All-from_get_or}
use Rattle.tk_distance.specs.Cities.{IsCity}
use Rattle.tk_tour.specs.Tour.{IsTour}
use Rattle.tk_tour.proofs.Tours.{city_in_range}

-- the entries of a tour are cities
pub cities_of_tour : (n m : ℕ) (cities : List ℕ) → m ≡ n → IsTour n cities → All (IsCity m) cities
cities_of_tour n m cities e tour =
    All-from_get_or (IsCity m) cities 0 (λ i lt. let r = city_in_range n cities i tour (omega (arith, lt)) in
    (omega (arith, r.0), omega (arith, e, r.1)))
