-- The elements of a tour.
use Rattle.std.proofs.Common.{◌≡◌, ℕ, List, arith, subst, sym}
use Rattle.std.specs.List.{All}
use Rattle.std.proofs.lemmas.List.{get_or_default}
use Rattle.tk_distance.specs.Cities.{IsCity}
use Rattle.tk_tour.specs.Tour.{IsTour}
use Rattle.tk_tour.proofs.Tours.{city_in_range}

pub All-tour : (n m : ℕ) (xs ys : List ℕ) → IsTour n xs → n ≡ m → ys ≡ xs → All (IsCity m) ys
All-tour n m xs ys tour size same =
    subst (λ (v : List ℕ). All (IsCity m) v) (sym same)
    (λ k d lt.
    let within = city_in_range n xs k tour lt in
    let at = get_or_default xs k d 0 lt in
    (omega (arith, at, within.0), omega (arith, at, within.1, size)))
