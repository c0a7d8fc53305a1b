-- The way along a list, distance by distance.
use Rattle.std.proofs.Common.{◌≡◌, ℕ, ◌+◌, ◌*◌, ◌<◌, ◌≤◌, List, [], ◌∷◌, ◌++◌, length, drop, get_or, ap, ◌∙◌, arith}
use Rattle.std.proofs.Common.{length-append}
use Rattle.std.proofs.lemmas.List.{drop_more, drop_all}
use Rattle.tk_tour.specs.Tour.{walk, tour_length}

-- a way whose distances are at most `most` each
pub walk-limit : (d : ℕ → ℕ → ℕ) (most from : ℕ) (cities : List ℕ) → ((a b : ℕ) → d a b ≤ most) →
    walk d from cities ≤ most * length cities
walk-limit d most from [] limit = omega arith
walk-limit d most from (city ∷ cities) limit = omega (arith, limit from city, walk-limit d most city cities limit)

-- the way from a city along the cities from index k on, and back to the first
abbrev pub way_back : (ℕ → ℕ → ℕ) → ℕ → ℕ → ℕ → List ℕ → ℕ
way_back d from first k cities = walk d from (drop k cities ++ first ∷ [])

pub way_back-step : (d : ℕ → ℕ → ℕ) (from first k : ℕ) (cities : List ℕ) → k < length cities →
    way_back d from first k cities ≡ d from (get_or cities k 0) + way_back d (get_or cities k 0) first (k + 1) cities
way_back-step d from first k cities lt = ap (λ v. walk d from (v ++ first ∷ [])) (drop_more cities k 0 lt)

pub way_back-end : (d : ℕ → ℕ → ℕ) (from first k : ℕ) (cities : List ℕ) → length cities ≤ k →
    way_back d from first k cities ≡ d from first
way_back-end d from first k cities le = ap (λ v. walk d from (v ++ first ∷ [])) (drop_all k cities le) ∙ omega arith

-- a tour whose distances are at most `most` each
pub tour_length-limit : (d : ℕ → ℕ → ℕ) (most : ℕ) (cities : List ℕ) → ((a b : ℕ) → d a b ≤ most) →
    tour_length d cities ≤ most * length cities
tour_length-limit d most [] limit = omega arith
tour_length-limit d most (first ∷ cities) limit =
    omega (
      arith,
      walk-limit d most first (cities ++ first ∷ []) limit,
      ap (λ v. most * v) (length-append cities (first ∷ [])),
    )
