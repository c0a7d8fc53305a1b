-- Routes up to one more, and what is made of them.
use Rattle.std.proofs.Common.{◌≡◌, ℕ, suc, ◌+◌, ◌<◌, List, [], ◌∷◌, ◌++◌, length, take, get_or, refl, sym, ap, ◌∙◌}
use Rattle.std.proofs.Common.{arith, append-nil, length-take, true, false}
use Rattle.std.specs.Prelude.{map, flat_map, ◌==◌, ◌-◌, ◌≤◌, Option, Some, slice_get, slice_index, unwrap_or}
use Rattle.std.proofs.lemmas.List.{get_or-map, take_more, map-append, length-map}
use Rattle.std.proofs.lemmas.Grind.{flat_map-append}
use Rattle.std.proofs.lemmas.Bool.{eqb-true}
use Rattle.std.proofs.lemmas.Option.{none-some}
use Rattle.tk_routes.specs.Instance.{Instance, node_of}
use Rattle.tk_picture.specs.Drawings.{each_filled, route_paths}
use Rattle.tk_picture.specs.PictureText.{mark, number_mark}

module _ {X : Type 0} (f : ℕ → List ℕ → X) where
  each_filled-append : (k : ℕ) (routes more : List (List ℕ)) → each_filled f k (routes ++ more) ≡ each_filled f k routes
      ++ each_filled f (k + length routes) more
  each_filled-append k [] more =
      let e : k + 0 ≡ k = omega arith in
      rw e refl
  each_filled-append k ([] ∷ routes) more =
      let e : k + 1 + length routes ≡ k + suc (length routes) = omega arith in
      rw (← e) (each_filled-append (k + 1) routes more)
  each_filled-append k ((c ∷ cs) ∷ routes) more =
      let e : k + 1 + length routes ≡ k + suc (length routes) = omega arith in
      rw (← e) (ap (λ l. f k (c ∷ cs) ∷ l) (each_filled-append (k + 1) routes more))

  -- what is put for each of them, up to one more
  pub filled_more : {Y : Type 0} (put : X → List ℕ) (items : Y → List ℕ) (ys : List Y) (n number : ℕ) (y : Y)
      (route : List ℕ)
      → n < length ys → y ≡ get_or ys n y → route ≡ items y → number ≡ n + 1
      → flat_map put (each_filled f 1 (map items (take (n + 1) ys)))
      ≡ flat_map put (each_filled f 1 (map items (take n ys))) ++ flat_map put (each_filled f number (route ∷ []))
  filled_more put items ys n number y route within is same next =
      let before = map items (take n ys) in
      let all : map items (take (n + 1) ys) ≡ before ++ route ∷ [] =
      ap (map items) (take_more ys n y within ∙ ap (λ z. take n ys ++ z ∷ []) (sym is))
      ∙ map-append items (take n ys) (y ∷ []) ∙ ap (λ r. before ++ r ∷ []) (sym same) in
      let count : 1 + length before ≡ number = simp length-map (omega (arith, next, length-take n ys)) in
      ap (λ l. flat_map put (each_filled f 1 l)) all ∙ ap (flat_map put) (each_filled-append 1 before (route ∷ []))
      ∙ flat_map-append put (each_filled f 1 before) _
      ∙ ap (λ m. flat_map put (each_filled f 1 before) ++ flat_map put (each_filled f m (route ∷ []))) count

  pub filled_none : (put : X → List ℕ) (k : ℕ) (route : List ℕ) → (length route == 0) ≡ true →
      flat_map put (each_filled f k (route ∷ [])) ≡ []
  filled_none put k [] none = refl
  filled_none put k (c ∷ route) none = let e = eqb-true (length (c ∷ route)) 0 none in absurd (omega (arith, e))

  pub filled_some : (put : X → List ℕ) (k : ℕ) (route : List ℕ) → (length route == 0) ≡ false →
      flat_map put (each_filled f k (route ∷ [])) ≡ put (f k route)
  filled_some put k [] some = cc
  filled_some put k (c ∷ route) some = append-nil _

-- the last stop of a route, and the first, after the depot x
pub last_stop : (f : ℕ → ℕ) (x : ℕ) (route : List ℕ) → 1 ≤ length route
    → slice_index (x ∷ map f route) (length (x ∷ map f route) - 1) ≡ f (slice_index route (length route - 1))
last_stop f x [] some = absurd (omega (arith, some))
last_stop f x (c ∷ route) some =
    let count : length (x ∷ map f (c ∷ route)) - 1 ≡ suc (length route) = simp length-map (omega arith) in
    let before : length (c ∷ route) - 1 ≡ length route = omega arith in
    ap (λ (k : ℕ). slice_index (x ∷ map f (c ∷ route)) k) count
    ∙ get_or-map f (c ∷ route) (length route) 0 0 (omega arith)
    ∙ ap (λ (k : ℕ). f (slice_index (c ∷ route) k)) (sym before)

pub first_stop : (f : ℕ → ℕ) (x : ℕ) (route : List ℕ) → 1 ≤ length route
    → slice_index (x ∷ map f route) 1 ≡ f (slice_index route 0)
first_stop f x [] some = absurd (omega (arith, some))
first_stop f x (c ∷ route) some = refl

-- the number of a route over its first customer
pub marked : (spot : ℕ → List ℕ) (i : Instance) (k : ℕ) (route : List ℕ) (first : ℕ) → slice_get route 0 ≡ Some first
    → flat_map (number_mark spot) (route_paths i k (route ∷ [])) ≡ mark k (spot (node_of i.depot first))
marked spot i k [] first is = absurd (none-some first is)
marked spot i k (c ∷ route) first is = append-nil _
    ∙ ap (λ (o : Option ℕ). mark k (spot (node_of i.depot (unwrap_or o c)))) is
