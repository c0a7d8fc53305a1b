-- A search of a list in parts.
use Rattle.std.proofs.Common.{◌≡◌, ℕ, suc, ◌+◌, ◌<◌, Bool, true, false, cond, List, [], ◌∷◌, ◌++◌, length, get_or, take}
use Rattle.std.proofs.Common.{drop, Option, Some, None, refl, sym, ◌∙◌, ap, arith, append-nil, take-append-drop, subst}
use Rattle.std.proofs.Common.{map, ◌||◌}
use Rattle.std.specs.List.{flat_map}
use Rattle.std.proofs.lemmas.List.{take_more, take-map}
use Rattle.std.proofs.lemmas.List.Folds.{flat_map-map}
use Rattle.std.proofs.lemmas.List.Concat.{flat_map-append}
use Rattle.std.specs.List.{All}
use Rattle.std.proofs.lemmas.List.Elements.{All-cons, All-nil}
use Rattle.tk_tour.specs.Counters.{saturated}
use Rattle.tk_tour.specs.Tour.{next_city, prev_city}
use Rattle.tk_descent.specs.Offers.{offers_between, first_allowed, tests_until, Searched, is_taken, or_offers, segments}
use Rattle.tk_descent.specs.Offers.{segment_count, all_segments, covers}
use Rattle.tk_descent.specs.Sharing.{segment_of, piece_offers}
use Rattle.tk_descent.specs.declared.looks.sharing.CityWithNeighbours.{CityWithNeighbours}
use Rattle.tk_descent.specs.declared.looks.sharing.RemovedSegment.{RemovedSegment}
use Rattle.tk_descent.specs.declared.offer.Offer.TheVariants.{Two}
use Rattle.tk_descent.specs.declared.offer.Segment.{Segment}
use Rattle.tk_descent.specs.declared.offer.Offer.{Offer}
use Rattle.tk_descent.specs.declared.offer.Found.{Found}

pub all_of_five : {X : Type 0} (P : X → Type 0) (a b c d e : X) → P a → P b → P c → P d → P e →
    All P (a ∷ b ∷ c ∷ d ∷ e ∷ [])
all_of_five P a b c d e h1 h2 h3 h4 h5 =
    All-cons P a (b ∷ c ∷ d ∷ e ∷ []) h1
    (All-cons P b (c ∷ d ∷ e ∷ []) h2
    (All-cons P c (d ∷ e ∷ []) h3 (All-cons P d (e ∷ []) h4 (All-cons P e [] h5 (All-nil P)))))

step_after : (b : Bool) (o : Offer) (r r2 s : Option Offer) (k l n : ℕ) → cond b (Some o) r ≡ None →
    (r ≡ None → (r2 ≡ s) × (k ≡ l + n)) → (cond b (Some o) r2 ≡ s) × (cond b 1 (suc k) ≡ cond b 1 (suc l) + n)
step_after true o r r2 s k l n h f = (cc, cc)
step_after false o r r2 s k l n h f = let p = f h in (p.0, omega (arith, p.1))

step_found : (b : Bool) (o p : Offer) (r r2 : Option Offer) (k l : ℕ) → cond b (Some o) r ≡ Some p →
    (r ≡ Some p → (r2 ≡ Some p) × (k ≡ l)) → (cond b (Some o) r2 ≡ Some p) × (cond b 1 (suc k) ≡ cond b 1 (suc l))
step_found true o p r r2 k l h f = (h, refl)
step_found false o p r r2 k l h f = let q = f h in (q.0, ap suc q.1)

-- after a list without an offer to take, the next list is searched
search_after : (d : ℕ → ℕ → ℕ) (may : Offer → Bool) (xs ys : List Offer) → first_allowed d may xs ≡ None →
    (first_allowed d may (xs ++ ys) ≡ first_allowed d may ys)
    × (tests_until d may (xs ++ ys) ≡ tests_until d may xs + tests_until d may ys)
search_after d may [] ys h = (refl, omega arith)
search_after d may (o ∷ xs) ys h = step_after (is_taken d may o) o (first_allowed d may xs)
    (first_allowed d may (xs ++ ys)) (first_allowed d may ys)
    (tests_until d may (xs ++ ys)) (tests_until d may xs) (tests_until d may ys) h (search_after d may xs ys)

-- a list with such an offer is searched up to it
search_found : (d : ℕ → ℕ → ℕ) (may : Offer → Bool) (xs ys : List Offer) (p : Offer) → first_allowed d may xs ≡ Some p →
    (first_allowed d may (xs ++ ys) ≡ Some p) × (tests_until d may (xs ++ ys) ≡ tests_until d may xs)
search_found d may [] ys p h = cc
search_found d may (o ∷ xs) ys p h = step_found (is_taken d may o) o p (first_allowed d may xs)
    (first_allowed d may (xs ++ ys)) (tests_until d may (xs ++ ys)) (tests_until d may xs) h
    (search_found d may xs ys p)

saturated-saturated : (t j k : ℕ) → saturated (saturated (t + j) + k) ≡ saturated (t + (j + k))
saturated-saturated t j k = omega arith

-- a search that found nothing continues with another list
pub Searched-on : {may : Offer → Bool} (d : ℕ → ℕ → ℕ) (xs ys : List Offer) (r : Option Found) (t u v : ℕ) →
    Searched d may xs None t u → Searched d may ys r u v → Searched d may (xs ++ ys) r t v
Searched-on {may} d xs ys r t u v h k =
    let e = search_after d may xs ys (sym h.found) in
    record {
      found = k.found ∙ sym e.0;
      worth = k.worth;
      tests = k.tests
          ∙ ap (λ z. saturated (z + tests_until d may ys)) h.tests
          ∙ saturated-saturated t (tests_until d may xs) (tests_until d may ys) ∙ ap (λ z. saturated (t + z)) (sym e.1);
    }

-- a search that found an offer skips the rest
pub Searched-stop : {may : Offer → Bool} (d : ℕ → ℕ → ℕ) (xs ys : List Offer) (f : Found) (t u : ℕ) →
    Searched d may xs (Some f) t u → Searched d may (xs ++ ys) (Some f) t u
Searched-stop {may} d xs ys f t u h =
    let e = search_found d may xs ys f.offer (sym h.found) in
    record { found = sym e.0; worth = h.worth; tests = h.tests ∙ ap (λ z. saturated (t + z)) (sym e.1) }

module _ {X : Type 0} (d : ℕ → ℕ → ℕ) (f : X → List Offer) (xs : List X) (i : ℕ) (x : X) (at : i < length xs)
    (t u v : ℕ) where
  one_more : flat_map f (take (i + 1) xs) ≡ flat_map f (take i xs) ++ f (get_or xs i x)
  one_more = ap (flat_map f) (take_more xs i x at) ∙ flat_map-append f (take i xs) (get_or xs i x ∷ [])
      ∙ ap (λ z. flat_map f (take i xs) ++ z) (append-nil (f (get_or xs i x)))

  pub Searched-more : {may : Offer → Bool} → Searched d may (flat_map f (take i xs)) None t u →
      Searched d may (f (get_or xs i x)) None u v → Searched d may (flat_map f (take (i + 1) xs)) None t v
  Searched-more h k = rw one_more (Searched-on d (flat_map f (take i xs)) (f (get_or xs i x)) None t u v h k)

  pieces : flat_map f xs ≡ (flat_map f (take i xs) ++ f (get_or xs i x)) ++ flat_map f (drop (i + 1) xs)
  pieces = ap (flat_map f) (sym (take-append-drop (i + 1) xs)) ∙ flat_map-append f (take (i + 1) xs) (drop (i + 1) xs)
      ∙ ap (λ z. z ++ flat_map f (drop (i + 1) xs)) one_more

  pub Searched-early : {may : Offer → Bool} (r : Found) → Searched d may (flat_map f (take i xs)) None t u →
      Searched d may (f (get_or xs i x)) (Some r) u v → Searched d may (flat_map f xs) (Some r) t v
  Searched-early r h k =
      rw pieces (Searched-stop d (flat_map f (take i xs) ++ f (get_or xs i x)) (flat_map f (drop (i + 1) xs)) r t v
      (Searched-on d (flat_map f (take i xs)) (f (get_or xs i x)) (Some r) t u v h k))

-- a search of the empty list
pub Searched-none : {may : Offer → Bool} (d : ℕ → ℕ → ℕ) (t : ℕ) → t < 18446744073709551616 → Searched d may [] None t t
Searched-none {may} d t h = record { found = refl; worth = tt; tests = omega (arith, h) }

-- the tests of a search are added to those before it
pub Searched-added : {may : Offer → Bool} (d : ℕ → ℕ → ℕ) (os : List Offer) (r : Option Found) (t u v : ℕ) →
    v ≡ saturated (t + u) → Searched d may os r 0 u → Searched d may os r t v
Searched-added {may} d os r t u v e h =
    record { found = h.found; worth = h.worth; tests = omega (arith, e, h.tests) }

-- the Or-opt offers with a city of the segment: there are none
none_of : (a b c : Bool) (o p : Offer) → a ≡ true → cond (a || b) [] (o ∷ []) ++ cond (a || c) [] (p ∷ []) ≡ []
none_of true b c o p h = refl
none_of false b c o p h = cc

pub Searched-inside : {may : Offer → Bool} (d : ℕ → ℕ → ℕ) (x y ay by : ℕ) (s : Segment) (t : ℕ) →
    covers x s y ≡ true → t < 18446744073709551616 → Searched d may (or_offers x y ay by s) None t t
Searched-inside {may} d x y ay by s t h lt =
    subst (λ z. Searched d may z None t t) (sym (none_of (covers x s y) (covers x s ay) (covers x s by) _ _ h))
    (Searched-none d t lt)

pub at_table : {may : Offer → Bool} (d e : ℕ → ℕ → ℕ) (os : List Offer) (r : Option Found) (t u : ℕ) → e ≡ d →
    Searched e may os r t u → Searched d may os r t u
at_table {may} d e os r t u same h = subst (λ z. Searched z may os r t u) same h

pub on_list : {may : Offer → Bool} (d : ℕ → ℕ → ℕ) (os qs : List Offer) (r : Option Found) (t u : ℕ) → os ≡ qs →
    Searched d may os r t u → Searched d may qs r t u
on_list {may} d os qs r t u same h = subst (λ z. Searched d may z r t u) same h

-- the offers of x with y, from the neighbours of both
pub beside_offers : (C : List ℕ) (m n k : ℕ) (all : List RemovedSegment) (a b : CityWithNeighbours) (x y : ℕ) → k ≡
    segment_count n m →
    n ≡ length C → map segment_of all ≡ all_segments (next_city C) (prev_city C) a.city →
    a.city ≡ x → a.after ≡ next_city C x → a.before ≡ prev_city C x →
    b.city ≡ y → b.after ≡ next_city C y → b.before ≡ prev_city C y →
    (Two a.city a.after b.city b.after ∷ Two a.city a.before b.city b.before
    ∷ flat_map (piece_offers a.city b) (take k all)) ≡ offers_between C m x y
beside_offers C m n k all a b x y count size are h1 h2 h3 h4 h5 h6 =
    let F : List Segment → List Offer = flat_map (or_offers a.city b.city b.after b.before) in
    let ss : map segment_of (take k all) ≡ segments (next_city C) (prev_city C) (length C) m x =
    sym (take-map segment_of k all) ∙ ap (take k) are
    ∙ ap (λ i. take i (all_segments (next_city C) (prev_city C) a.city)) (count ∙ ap (λ z. segment_count z m) size)
    ∙ ap (λ i. take (segment_count (length C) m) (all_segments (next_city C) (prev_city C) i)) h1 in
    let rest : flat_map (piece_offers a.city b) (take k all)
    ≡ F (segments (next_city C) (prev_city C) (length C) m x) =
    sym (flat_map-map (or_offers a.city b.city b.after b.before) segment_of (take k all)) ∙ ap F ss in
    cc

-- a search of these offers
pub with_city : {may : Offer → Bool} (C : List ℕ) (m n k : ℕ) (all : List RemovedSegment) (a b : CityWithNeighbours)
    (x y : ℕ)
    (d : ℕ → ℕ → ℕ) (r : Option Found) (t u : ℕ) → k ≡ segment_count n m → n ≡ length C →
    map segment_of all ≡ all_segments (next_city C) (prev_city C) a.city →
    a.city ≡ x → a.after ≡ next_city C x → a.before ≡ prev_city C x →
    b.city ≡ y → b.after ≡ next_city C y → b.before ≡ prev_city C y →
    Searched d may (Two a.city a.after b.city b.after ∷ Two a.city a.before b.city b.before
    ∷ flat_map (piece_offers a.city b) (take k all)) r t u → Searched d may (offers_between C m x y) r t u
with_city {may} C m n k all a b x y d r t u count size are h1 h2 h3 h4 h5 h6 h =
    on_list d _ _ r t u (beside_offers C m n k all a b x y count size are h1 h2 h3 h4 h5 h6) h
