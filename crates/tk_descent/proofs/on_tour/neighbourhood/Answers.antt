use Rattle.std.proofs.Common.{ℕ, [], ◌∷◌, length}
use Rattle.std.specs.List.{All}
use Rattle.std.proofs.lemmas.List.Elements.{All-cons, All-nil}
use Rattle.tk_distance.specs.Cities.{IsCity}
use Rattle.tk_tour.specs.Neighbourhood.{three_from}
use Rattle.tk_tour.specs.Tour.{next_city, prev_city}
use Rattle.tk_tour.proofs.Tours.{next_city-city, prev_city-city}
use Rattle.tk_descent.proofs.on_tour.neighbourhood.Goals as goal

-- the first three cities of a way along the tour
three_cities : (n : ℕ) (step : ℕ → ℕ) (c : ℕ) → ((d : ℕ) → IsCity n (step d)) → All (IsCity n) (three_from step c)
three_cities n step c way =
    All-cons (IsCity n) (step c) (step (step c) ∷ step (step (step c)) ∷ []) (way c)
    (All-cons (IsCity n) (step (step c)) (step (step (step c)) ∷ []) (way (step c))
    (All-cons (IsCity n) (step (step (step c))) [] (way (step (step c))) (All-nil (IsCity n))))

pub returns-clause-after : goal.returns-clause-after
returns-clause-after g c =
    let C = g.S.TourStore.cities c.args.tour.now in
    rw c.neighbourhood.ensures.after (three_cities (length C) (next_city C) c.args.c
    (λ d. next_city-city C d (g.met.S.TourStore.is_tour c.args.tour.now)))

pub returns-clause-before : goal.returns-clause-before
returns-clause-before g c =
    let C = g.S.TourStore.cities c.args.tour.now in
    rw c.neighbourhood.ensures.before (three_cities (length C) (prev_city C) c.args.c
    (λ d. prev_city-city C d (g.met.S.TourStore.is_tour c.args.tour.now)))
