-- The marks of the customers that are served.
use Rattle.std.specs.Prelude.{◌≡◌, ◌-◌, ◌<◌, ℕ, Bool, true, false, List, Option, MatchOption, length, nat_lt}
use Rattle.std.specs.Prelude.{slice_index_or}
use Rattle.tk_distance.specs.Cities.{IsCity}
use Rattle.tk_tour.specs.Tour.{occurrences}
use Rattle.tk_routes.specs.RouteVerdicts.{AreServedOnce}

-- these customers are served, each once, and exactly they are marked
pub record AreServed (served : List Bool) (xs : List ℕ) : Type 0 where
  pub once : AreServedOnce (length served) xs
  pub marks : (c : ℕ) → IsCity (length served) c → slice_index_or served (c - 1) false ≡ nat_lt 0 (occurrences c xs)

-- the first k customers are marked
abbrev pub AreMarked : List Bool → ℕ → Type 0
AreMarked served k = (j : ℕ) → j < k → slice_index_or served j false ≡ true

-- the lowest customer without a mark, or `None` if all are marked
abbrev pub IsLowestFree : List Bool → Option ℕ → Type 0
IsLowestFree served r =
    MatchOption r (AreMarked served (length served))
    (λ x. IsCity (length served) x × (slice_index_or served (x - 1) false ≡ false) × AreMarked served (x - 1))
