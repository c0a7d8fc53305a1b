-- What the savings lists are for a tour and for routes.
use Rattle.std.proofs.Common.{ℕ, ◌≤◌, ◌<◌, List, [], ◌∷◌, length, map, get_or, ap, subst, arith}
use Rattle.std.specs.List.{All, flat_map, sum_by}
use Rattle.std.proofs.lemmas.List.{get_or-map, length-map}
use Rattle.tk_distance.specs.Cities.{IsCity}
use Rattle.tk_tour.specs.Tour.{IsTour}
use Rattle.tk_starts.specs.SavingsMerges.{AreSavingsLists, AreLight}
use Rattle.std.proofs.lemmas.List.Folds.{flat_map-map}
use Rattle.tk_starts.proofs.Merging.Lists.ListsHeld.{IsTour-from_parts, load-of_list, path-filled}
use Rattle.tk_starts.proofs.Merging.Parts.PartLoads.{parts_within}

-- the hub and the lists are a tour of all cities
pub tour_of_lists : {X : Type 0} (dist : ℕ → ℕ → ℕ) (near : ℕ → List ℕ) (n hub : ℕ) (load : ℕ → ℕ) (capacity : ℕ)
    (f : X → List ℕ) (xs : List X) → IsCity n hub →
    AreSavingsLists dist near n hub load capacity (map f xs) → IsTour n (hub ∷ flat_map f xs)
tour_of_lists dist near n hub load capacity f xs r s =
    subst (λ (x : List ℕ). IsTour n (hub ∷ x)) (flat_map-map (λ (x : List ℕ). x) f xs)
    (IsTour-from_parts n hub _ (map f xs) r s.1.1)

-- where each city is within the capacity by itself, each list is
pub light_lists : {X : Type 0} (dist : ℕ → ℕ → ℕ) (near : ℕ → List ℕ) (n hub : ℕ) (load : ℕ → ℕ) (capacity : ℕ)
    (f : X → List ℕ) (xs : List X) →
    AreSavingsLists dist near n hub load capacity (map f xs) → AreLight n hub load capacity →
    All (λ x. sum_by load (f x) ≤ capacity) xs
light_lists dist near n hub load capacity f xs s light k d l =
    let long : k < length (map f xs) = omega (arith, l, length-map xs f) in
    let t = load-of_list load n hub _ (map f xs) s.1.1 k long in
    let w = parts_within load n hub capacity s.0 light t.0 t.1.0 t.1.1 in
    let e = ap (sum_by load) (get_or-map f xs k d [] l) in
    omega (arith, t.1.2, w, e)

-- no list is empty
pub filled_lists : {X : Type 0} (dist : ℕ → ℕ → ℕ) (near : ℕ → List ℕ) (n hub : ℕ) (load : ℕ → ℕ) (capacity : ℕ)
    (f : X → List ℕ) (xs : List X) →
    AreSavingsLists dist near n hub load capacity (map f xs) → All (λ x. 1 ≤ length (f x)) xs
filled_lists dist near n hub load capacity f xs s k d l =
    let long : k < length (map f xs) = omega (arith, l, length-map xs f) in
    let p = path-filled _ (get_or (map f xs) k []) (s.1.1.paths k [] long) in
    let e = ap (λ (x : List ℕ). length x) (get_or-map f xs k d [] l) in
    omega (arith, p, e)
