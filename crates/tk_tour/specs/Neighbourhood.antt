-- The three cities after a city of a tour, and the three before it.
use Rattle.std.specs.Prelude.{◌≡◌, ℕ, List, [], ◌∷◌}
use Rattle.tk_tour.specs.Tour.{next_city, prev_city}
use Rattle.tk_tour.specs.declared.store.Neighbourhood.{Neighbourhood}

-- the first three cities from c on, in the direction of `step`
abbrev pub three_from : (ℕ → ℕ) → ℕ → List ℕ
three_from step c = step c ∷ step (step c) ∷ step (step (step c)) ∷ []

-- the three cities after c on a tour, and the three before it
pub record IsNeighbourhood (cities : List ℕ) (c : ℕ) (neighbourhood : Neighbourhood) : Type 0 where
  pub after : neighbourhood.after ≡ three_from (next_city cities) c
  pub before : neighbourhood.before ≡ three_from (prev_city cities) c
