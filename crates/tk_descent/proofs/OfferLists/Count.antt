-- The length of a list of offers, and facts about its first offer with positive gain.
use Rattle.std.proofs.Common.{◌≡◌, ℕ, suc, ◌+◌, ◌*◌, ◌<◌, ◌≤◌, Bool, true, false, cond, ◌||◌, ◌&&◌, leb, List, [], ◌∷◌}
use Rattle.std.proofs.Common.{◌++◌, length, take, Option, Some, refl, arith, subst, pos, ◌-ℤ◌, flat_map, length-append}
use Rattle.std.proofs.Common.{length-take}
use Rattle.std.proofs.lemmas.Bool.{ltb-true, leb-true}
use Rattle.std.proofs.lemmas.Int.{ints}
use Rattle.tk_tour.specs.Tour.{next_city, prev_city, tour_length, walk}
use Rattle.tk_descent.specs.Offers.{offers_between}
use Rattle.tk_descent.specs.Offers.{first_allowed, tests_until, Searched, is_taken, improves, removed, added, covers}
use Rattle.tk_descent.specs.Offers.{or_offer}
use Rattle.tk_descent.specs.Offers.{or_offers, offers_with, offers, segments, all_segments, segment_count, ends}
use Rattle.tk_descent.specs.Awake.{woken, woken_each}
use Rattle.tk_distance.specs.Holding.{holds}
use Rattle.tk_descent.specs.declared.offer.Offer.{Offer}
use Rattle.tk_descent.specs.declared.offer.Offer.TheVariants.{Two, Or}
use Rattle.std.proofs.Math.Nat.{mul-le-mul_left}
use Rattle.tk_problem.specs.declared.limits.TheConstants.{DISTANCE_LIMIT}
use Rattle.tk_descent.specs.declared.offer.Segment.{Segment}
use Rattle.tk_descent.specs.declared.offer.Found.{Found}
use Rattle.tk_descent.specs.declared.looks.sharing.CityWithNeighbours.{CityWithNeighbours}
use Rattle.tk_descent.specs.declared.looks.sharing.RemovedSegment.{RemovedSegment}
use Rattle.tk_descent.specs.Sharing.{piece_offers}

pub step_improves : (b : Bool) (o p : Offer) (r : Option Offer) (P : Offer → Type 0) → (b ≡ true → P o) →
    (r ≡ Some p → P p) → cond b (Some o) r ≡ Some p → P p
step_improves true o p r P h k e = let same : o ≡ p = cc in subst P same (h refl)
step_improves false o p r P h k e = k e

and_second : (a b : Bool) → (a && b) ≡ true → b ≡ true
and_second true b h = h
and_second false b h = cc

and_first : (a b : Bool) → (a && b) ≡ true → a ≡ true
and_first true b h = refl
and_first false b h = cc

-- the offer that is found improves, and has each property that all offers of the list have
pub found_improves : (d : ℕ → ℕ → ℕ) (may : Offer → Bool) (os : List Offer) (p : Offer) →
    first_allowed d may os ≡ Some p → added d p < removed d p
found_improves d may [] p e = cc
found_improves d may (o ∷ os) p e =
    step_improves (is_taken d may o) o p (first_allowed d may os) (λ z. added d z < removed d z)
    (λ h. ltb-true (added d o) (removed d o) (and_second (may o) (improves d o) h)) (found_improves d may os p) e

-- and is allowed
pub found_allowed : (d : ℕ → ℕ → ℕ) (may : Offer → Bool) (os : List Offer) (p : Offer) →
    first_allowed d may os ≡ Some p → may p ≡ true
found_allowed d may [] p e = cc
found_allowed d may (o ∷ os) p e =
    step_improves (is_taken d may o) o p (first_allowed d may os) (λ z. may z ≡ true)
    (λ h. and_first (may o) (improves d o) h) (found_allowed d may os p) e

tests_step : (b : Bool) (k n : ℕ) → k ≤ n → cond b 1 (suc k) ≤ suc n
tests_step true k n h = omega arith
tests_step false k n h = omega arith

pub tests_until-le : (d : ℕ → ℕ → ℕ) (may : Offer → Bool) (os : List Offer) → tests_until d may os ≤ length os
tests_until-le d may [] = omega arith
tests_until-le d may (o ∷ os) =
    tests_step (is_taken d may o) (tests_until d may os) (length os) (tests_until-le d may os)

length-flat_map-le : {X : Type 0} (f : X → List Offer) (b : ℕ) → ((x : X) → length (f x) ≤ b) → (xs : List X) →
    length (flat_map f xs) ≤ b * length xs
length-flat_map-le f b h [] = omega arith
length-flat_map-le f b h (x ∷ xs) = omega (arith, length-append (f x) (flat_map f xs), h x, length-flat_map-le f b h xs)

one_or_none : (b : Bool) (o : Offer) → length (cond b [] (o ∷ [])) ≤ 1
one_or_none true o = omega arith
one_or_none false o = omega arith

or_offer-le : (x y : ℕ) (s : Segment) (w : ℕ) → length (or_offer x y s w) ≤ 1
or_offer-le x y s w = one_or_none (covers x s y || covers x s w) (Or s.before x s.last s.after y w)

or_offers-le : (x y ay by : ℕ) (s : Segment) → length (or_offers x y ay by s) ≤ 2
or_offers-le x y ay by s =
    omega (arith, length-append (or_offer x y s ay) (or_offer x y s by), or_offer-le x y s ay, or_offer-le x y s by)

count_cases : (a b c : Bool) (m : ℕ) → (a ≡ true → 3 ≤ m) → (b ≡ true → 2 ≤ m) → 1 ≤ m →
    cond a 5 (cond b 3 (cond c 1 0)) + 1 ≤ 2 * m
count_cases true b c m h k l = omega (arith, h refl)
count_cases false true c m h k l = omega (arith, k refl)
count_cases false false true m h k l = omega arith
count_cases false false false m h k l = omega arith

pub segment_count-le : (n m : ℕ) → 1 ≤ m → segment_count n m + 1 ≤ 2 * m
segment_count-le n m l =
    count_cases (leb 5 n && leb 3 m) (leb 4 n && leb 2 m) (leb 3 n) m
    (λ h. leb-true 3 m (and_second (leb 5 n) (leb 3 m) h)) (λ h. leb-true 2 m (and_second (leb 4 n) (leb 2 m) h)) l

length-segments : (next prev : ℕ → ℕ) (n m x : ℕ) → length (segments next prev n m x) ≤ segment_count n m
length-segments next prev n m x = omega (arith, length-take (segment_count n m) (all_segments next prev x))

offers_with-le : (next prev : ℕ → ℕ) (n m x y : ℕ) → 1 ≤ m →
    length (offers_with next prev (segments next prev n m x) x y) ≤ 4 * m
offers_with-le next prev n m x y l =
    omega (
      arith,
      length-flat_map-le (or_offers x y (next y) (prev y)) 2 (or_offers-le x y (next y) (prev y))
          (segments next prev n m x),
      length-segments next prev n m x,
      segment_count-le n m l,
    )

pub offers-le : (C near : List ℕ) (m x : ℕ) → 1 ≤ m → length (offers C m near x) ≤ 4 * m * length near
offers-le C near m x l =
    length-flat_map-le (offers_between C m x) (4 * m)
    (λ y. offers_with-le (next_city C) (prev_city C) (length C) m x y l) near

-- at most one test for each offer
Searched-le : {may : Offer → Bool} (d : ℕ → ℕ → ℕ) (os : List Offer) (r : Option Found) (t u : ℕ) →
    Searched d may os r t u → u ≤ t + length os
Searched-le {may} d os r t u h = omega (arith, h.tests, tests_until-le d may os)

pub first_counted : {may : Offer → Bool} (d : ℕ → ℕ → ℕ) (o : Offer) (r : Option Found) (t u : ℕ) →
    Searched d may (o ∷ []) r t u → u ≤ t + 1
first_counted d o r t u h = omega (arith, Searched-le d (o ∷ []) r t u h)

pub one_counted : {may : Offer → Bool} (d : ℕ → ℕ → ℕ) (x y : ℕ) (s : Segment) (w : ℕ) (r : Option Found) (t u : ℕ) →
    Searched d may (or_offer x y s w) r t u → u ≤ t + 1
one_counted d x y s w r t u h = omega (arith, Searched-le d (or_offer x y s w) r t u h, or_offer-le x y s w)

pub pieces_counted : {may : Offer → Bool} (d : ℕ → ℕ → ℕ) (x : ℕ) (y : CityWithNeighbours) (ps : List RemovedSegment)
    (r : Option Found) (t u : ℕ) → Searched d may (flat_map (piece_offers x y) ps) r t u → u ≤ t + 2 * length ps
pieces_counted d x y ps r t u h =
    omega (
      arith,
      Searched-le d (flat_map (piece_offers x y) ps) r t u h,
      length-flat_map-le (piece_offers x y) 2 (λ p. or_offers-le x y.city y.after y.before p.segment) ps,
    )

-- at most 4 * m tests for each near city
pub tested : {may : Offer → Bool} (d : ℕ → ℕ → ℕ) (C near : List ℕ) (m x t u k : ℕ) (r : Option Found) → 1 ≤ m →
    length near ≤ k → Searched d may (offers C m near x) r t u → u ≤ t + 4 * m * k
tested {may} d C near m x t u k r l e h =
    let p : 4 * m * length near ≤ 4 * m * k = mul-le-mul_left (4 * m) e in
    omega (arith, h.tests, tests_until-le d may (offers C m near x), p, offers-le C near m x l)

pub tested_part : {may : Offer → Bool} (d : ℕ → ℕ → ℕ) (C near : List ℕ) (m x i t u k : ℕ) (r : Option Found) →
    1 ≤ m → length near ≤ k → Searched d may (flat_map (offers_between C m x) (take i near)) r t u → u ≤ t + 4 * m * k
tested_part d C near m x i t u k r l e h = tested d C (take i near) m x t u k r l (omega (arith, length-take i near)) h

-- the numbers of a move

pub gain_after : (L L2 a r : ℕ) → L + a ≡ L2 + r → pos L -ℤ (pos r -ℤ pos a) ≡ pos L2
gain_after L L2 a r h = omega (arith, ints)

walk-le : (d : ℕ → ℕ → ℕ) → ((a b : ℕ) → d a b ≤ DISTANCE_LIMIT) → (a : ℕ) (xs : List ℕ) →
    walk d a xs ≤ DISTANCE_LIMIT * length xs
walk-le d h a [] = omega arith
walk-le d h a (b ∷ xs) = omega (arith, h a b, walk-le d h b xs)

pub tour_length-le : (d : ℕ → ℕ → ℕ) → ((a b : ℕ) → d a b ≤ DISTANCE_LIMIT) → (C : List ℕ) →
    tour_length d C ≤ DISTANCE_LIMIT * length C
tour_length-le d h [] = omega arith
tour_length-le d h (a ∷ C) = omega (arith, walk-le d h a (C ++ a ∷ []), length-append C (a ∷ []))

pub fewer : (m k a b : ℕ) → a ≤ b → 4 * m * k * a ≤ 4 * m * k * b
fewer m k a b h = mul-le-mul_left (4 * m * k) h

woken-le : (b : Bool) (W : List ℕ) (c : ℕ) → length (cond b W (W ++ c ∷ [])) ≤ length W + 1
woken-le true W c = omega arith
woken-le false W c = omega (arith, length-append W (c ∷ []))

pub woken_each-le : (cs W : List ℕ) → length (woken_each W cs) ≤ length W + length cs
woken_each-le [] W = omega arith
woken_each-le (c ∷ cs) W = omega (arith, woken_each-le cs (woken W c), woken-le (holds W c) W c)

pub ends-le : (o : Offer) → length (ends o) ≤ 6
ends-le (Two a b c d) = omega arith
ends-le (Or a x e b y w) = omega arith
