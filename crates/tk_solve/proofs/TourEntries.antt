-- The entries of a tour.
use Rattle.std.proofs.Common.{ℕ, List, All, arith}
use Rattle.std.proofs.lemmas.List.Elements.{All-from_get_or}
use Rattle.tk_distance.specs.Cities.{IsCity}
use Rattle.tk_tour.specs.Tour.{IsTour}
use Rattle.tk_tour.proofs.Tours.{city_in_range}

-- they are cities
pub cities_of_tour : (n : ℕ) (cities : List ℕ) → IsTour n cities → All (IsCity n) cities
cities_of_tour n cities tour =
    All-from_get_or (IsCity n) cities 0 (λ i lt. let r = city_in_range n cities i tour (omega (arith, lt)) in
    (omega (arith, r.0), omega (arith, r.1)))
