-- The steps of a descent.
use Rattle.std.proofs.Common.{◌≡◌, ℕ, ◌+◌, ◌-◌, ◌*◌, ◌<◌, ◌≤◌, List, ◌∷◌, length, Option, Some, None, sym, ◌∙◌, ap}
use Rattle.std.proofs.Common.{Bool, true, arith, subst, ℤ, pos, ◌-ℤ◌, FitsSigned, w64, to_z, of_z}
use Rattle.std.proofs.Math.Nat.{mul-le-mul}
use Rattle.std.specs.Int.RustNames.{unsigned_abs}
use Rattle.std.proofs.lemmas.Int.{ints, to_z-of_z}
use Rattle.tk_problem.specs.declared.limits.TheConstants.{CANDIDATE_LIMIT, CITY_LIMIT}
use Rattle.tk_descent.proofs.MovesOnTours.Paths.{IsTable}
use Rattle.tk_tour.specs.Counters.{saturated}
use Rattle.tk_tour.specs.Tour.{tour_length}
use Rattle.tk_descent.specs.Offers.{first_allowed, tests_until, offers, Makes, removed, added, Searched, gain, ends}
use Rattle.tk_descent.specs.Awake.{woken_each}
use Rattle.tk_descent.specs.Machine.{ExecutionUnder}
use Rattle.tk_descent.specs.Machine.ExecutionUnder.{asleep, move}
use Rattle.tk_descent.specs.declared.offer.Offer.{Offer}
use Rattle.tk_descent.specs.declared.offer.Offer.TheVariants.{Two, Or}
use Rattle.tk_descent.specs.declared.offer.Found.{Found}
use Rattle.tk_descent.proofs.OfferLists.Searching.{at_table}
use Rattle.tk_descent.proofs.MovesOnTours.GainLaw.{gain_law}
use Rattle.tk_descent.proofs.OfferLists.Count.{found_improves, found_allowed, woken_each-le, ends-le, tour_length-le}
use Rattle.tk_descent.proofs.OfferLists.Count.{gain_after}

module _ {may : List ℕ → Offer → Bool} (d : ℕ → ℕ → ℕ) (near : ℕ → List ℕ) (m : ℕ) (T W C U V : List ℕ)
    (x looks moves tests : ℕ) where
  pub run_asleep : ExecutionUnder may d near m T W C U looks moves tests → U ≡ x ∷ V → (e : ℕ → ℕ → ℕ) (t u : ℕ) → e ≡ d
      →
      Searched e (may C) (offers C m (near x) x) None t u →
      ExecutionUnder may d near m T W C V (looks + 1) moves (tests + tests_until d (may C) (offers C m (near x) x))
  run_asleep run front e t u same h =
      asleep (subst (λ z. ExecutionUnder may d near m T W C z looks moves tests) front run)
      (sym (at_table d e (offers C m (near x) x) None t u same h).found)

  module _ (D Z : List ℕ) (f : Found) (e : ℕ → ℕ → ℕ) (t u : ℕ) (same : e ≡ d)
      (h : Searched e (may C) (offers C m (near x) x) (Some f) t u) where
    pub run_move : ExecutionUnder may d near m T W C U looks moves tests → U ≡ x ∷ V → Makes m f.offer C D →
        Z ≡ woken_each V (ends f.offer) →
        ExecutionUnder may d near m T W D Z (looks + 1) (moves + 1)
        (tests + tests_until d (may C) (offers C m (near x) x))
    run_move run front made woken =
        let found : Some f.offer ≡ first_allowed d (may C) (offers C m (near x) x) =
        (at_table d e (offers C m (near x) x) (Some f) t u same h).found in
        subst (λ z. ExecutionUnder may d near m T W D z (looks + 1) (moves + 1)
        (tests + tests_until d (may C) (offers C m (near x) x)))
        (sym woken) (move (subst (λ z. ExecutionUnder may d near m T W C z looks moves tests) front run) (sym found)
        made)

-- a counter after a look, from its value before the descent and the tests of the descent
pub count_look : {may : Offer → Bool} (d e : ℕ → ℕ → ℕ) (os : List Offer) (r : Option Found)
    (before t u tests : ℕ) → e ≡ d →
    Searched e may os r t u → t ≡ saturated (before + tests) → u ≡ saturated (before + (tests + tests_until d may os))
count_look {may} d e os r before t u tests same h counted = omega (arith, (at_table d e os r t u same h).tests, counted)

pub queue_left : (U V Z : List ℕ) (x : ℕ) (o : Offer) → U ≡ x ∷ V → Z ≡ woken_each V (ends o) →
    length Z + 1 ≤ length U + 6
queue_left U V Z x o front woken = omega (arith, ap length front, ap length woken, woken_each-le (ends o) V, ends-le o)

pub fits_length : (d : ℕ → ℕ → ℕ) (C : List ℕ) → IsTable d → length C ≤ CITY_LIMIT → tour_length d C ≤ 400000000000000
fits_length d C is few = omega (arith, tour_length-le d is.1 C)

removed-le : (d : ℕ → ℕ → ℕ) (o : Offer) → IsTable d → (removed d o ≤ 12000000000) × (added d o ≤ 12000000000)
removed-le d (Two a b c e) is = (omega (arith, is.1), omega (arith, is.1))
removed-le d (Or a x e b y w) is = (omega (arith, is.1), omega (arith, is.1))

small_fits : (a b : ℕ) → a ≤ 12000000000 → b ≤ 12000000000 → FitsSigned w64 (pos a -ℤ pos b)
small_fits a b h k = omega (arith, ints)

pub length_fits : (a : ℕ) → a ≤ 400000000000000 → FitsSigned w64 (pos a)
length_fits a h = omega (arith, ints)

-- the length after a move, in 64 bits
pub worth_bits : (d : ℕ → ℕ → ℕ) (o : Offer) (L L2 : ℕ) (z v : ℤ) → IsTable d → v ≡ gain d o → z ≡ pos L →
    L + added d o ≡ L2 + removed d o → L2 ≤ 400000000000000 →
    FitsSigned w64 (z -ℤ to_z w64 (of_z w64 v)) × (to_z w64 (of_z w64 (z -ℤ to_z w64 (of_z w64 v))) ≡ pos L2)
worth_bits d o L L2 z v is e now law few =
    let q = removed-le d o is in
    let f : FitsSigned w64 v = subst (λ y. FitsSigned w64 y) (sym e) (small_fits (removed d o) (added d o) q.0 q.1) in
    let r : z -ℤ to_z w64 (of_z w64 v) ≡ pos L2 = ap (λ y. z -ℤ y) (to_z-of_z w64 v f ∙ e)
    ∙ ap (λ y. y -ℤ (pos (removed d o) -ℤ pos (added d o))) now ∙ gain_after L L2 (added d o) (removed d o) law in
    let k : FitsSigned w64 (z -ℤ to_z w64 (of_z w64 v)) = subst (λ y. FitsSigned w64 y) (sym r) (length_fits L2 few) in
    (k, to_z-of_z w64 _ k ∙ r)

pub worth_move : {may : Offer → Bool} (d e : ℕ → ℕ → ℕ) (os : List Offer) (f : Found) (t u m : ℕ) (C D : List ℕ)
    (z : ℤ) → IsTable d →
    e ≡ d → Searched e may os (Some f) t u → Makes m f.offer C D → z ≡ pos (tour_length d C) →
    tour_length d D ≤ 400000000000000 →
    FitsSigned w64 (z -ℤ to_z w64 (of_z w64 f.gain))
    × (to_z w64 (of_z w64 (z -ℤ to_z w64 (of_z w64 f.gain))) ≡ pos (tour_length d D))
worth_move {may} d e os f t u m C D z is same h made now few =
    worth_bits d f.offer (tour_length d C) (tour_length d D) z f.gain is (at_table d e os (Some f) t u same h).worth now
    (gain_law d is.0 C D m f.offer made) few

pub more_swaps : (a b c q k : ℕ) → b ≤ a + 3 * q * k → c ≤ b + 3 * q → c ≤ a + 3 * q * (k + 1)
more_swaps a b c q k h j = omega arith

pub tests_rise : {may : Offer → Bool} (d : ℕ → ℕ → ℕ) (os : List Offer) (r : Option Found) (a t u : ℕ) →
    Searched d may os r t u → t ≤ 18446744073709551615 → a ≤ t → a ≤ u
tests_rise {may} d os r a t u h l k = omega (arith, h.tests)

pub less_move : {may : Offer → Bool} (d e : ℕ → ℕ → ℕ) (os : List Offer) (f : Found) (t u m : ℕ) (C D : List ℕ) →
    IsTable d → e ≡ d → Searched e may os (Some f) t u → Makes m f.offer C D → tour_length d D + 1 ≤ tour_length d C
less_move {may} d e os f t u m C D is same h made =
    omega (
      arith,
      gain_law d is.0 C D m f.offer made,
      found_improves d may os f.offer (sym (at_table d e os (Some f) t u same h).found),
    )

-- an offer that a look found is allowed
pub may_made : {may : Offer → Bool} (d : ℕ → ℕ → ℕ) (os : List Offer) (f : Found) (t u : ℕ) →
    Searched d may os (Some f) t u → may f.offer ≡ true
may_made {may} d os f t u h = found_allowed d may os f.offer (sym h.found)

-- a descent has fewer than 3 * 10^18 tests
pub few_tests : (m k n moves tests L : ℕ) → m ≤ 3 → k ≤ CANDIDATE_LIMIT → n ≤ CITY_LIMIT → moves ≤ L →
    L ≤ 400000000000000 → tests ≤ 4 * m * k * (n + 6 * moves) → tests < 18446744073709551615
few_tests m k n moves tests L h j l f e b =
    let p : m * k ≤ 300 = mul-le-mul h j in
    let few : n + 6 * moves ≤ 2400000000100000 = omega arith in
    let q : m * k * (n + 6 * moves) ≤ 300 * 2400000000100000 = mul-le-mul p few in
    omega (arith, q, b)

-- a counter that started at 0 and has not saturated has the number of all tests
pub fresh_count : (before after tests r : ℕ) → after ≡ saturated (before + tests) → r ≡ after - before → before ≡ 0 →
    r < 18446744073709551615 → tests ≡ r
fresh_count before after tests r h j z few = omega arith

-- by how much a tour became shorter is the difference of its lengths
pub saved_is : (b a : ℤ) (x y : ℕ) → b ≡ pos x → a ≡ pos y → y ≤ x → unsigned_abs (b -ℤ a) ≡ x - y
saved_is b a x y eb ea le = ap (λ v. unsigned_abs (v -ℤ a)) eb ∙ ap (λ v. unsigned_abs (pos x -ℤ v)) ea ∙ apart
  where
    apart : unsigned_abs (pos x -ℤ pos y) ≡ x - y
    apart = grind (arith, ints)
