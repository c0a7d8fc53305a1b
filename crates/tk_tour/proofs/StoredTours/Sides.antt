-- The two sides of a cut, from the positions of their ends, and the effect of a flip that reverses the shorter one.
use Rattle.std.proofs.Common.{◌≡◌, ℕ, ◌+◌, ◌-◌, ◌/◌, ◌<◌, ◌≤◌, ⊎_elim, suc, zero, List, [], ◌∷◌, ◌++◌, length}
use Rattle.std.proofs.Common.{refl, sym, ap, ◌∙◌, arith, get_or}
use Rattle.std.proofs.lemmas.Bool.{cases_lt}
use Rattle.std.proofs.lemmas.List.{length-append, get_or_append_left, get_or_at}
use Rattle.tk_distance.specs.Cities.{IsCity}
use Rattle.tk_tour.specs.Moves.{AreForward, CanFlip, ReplacesSteps, TurnsShorterSide, TwoOptMove}
use Rattle.tk_tour.specs.Places.{PathLength}
use Rattle.tk_tour.specs.Reversal.{AreReversed, IsInverse, reversed_places}
use Rattle.tk_tour.specs.ReversalLaws.{AreReversed-one}
use Rattle.tk_tour.specs.Tour.{IsTour, IsSizedTour, next_city, place_of}
use Rattle.tk_tour.proofs.Tours.{HoldsOnce-tour, city_in_range, place_of-get_or}
use Rattle.tk_tour.proofs.StoredTours.Cuts.{TwoOptMove-from_steps}
use Rattle.tk_tour.proofs.StoredTours.Flips.{IsShorterSide-backward, ReplacesSteps-backward, backward, only_backward}
use Rattle.tk_tour.proofs.StoredTours.Flips.{flip_inner, flip_outer, next_city-in, place_is}
use Rattle.tk_tour.proofs.StoredTours.Places.{SidesAre, length-reversed_places, reversed_places-undone}

-- the positions of the cities 1 to m
places_to : ℕ → List ℕ → List ℕ
places_to zero xs = []
places_to (suc m) xs = places_to m xs ++ place_of (suc m) xs ∷ []

length-places_to : (m : ℕ) (xs : List ℕ) → length (places_to m xs) ≡ m
unfolding places_to
length-places_to zero xs = refl
length-places_to (suc m) xs =
    omega (arith, length-append (places_to m xs) (place_of (suc m) xs ∷ []), length-places_to m xs)

get_or-places_to : (m k : ℕ) (xs : List ℕ) → k < m → get_or (places_to m xs) k 0 ≡ place_of (suc k) xs
unfolding places_to
get_or-places_to zero k xs lt = absurd (omega arith)
get_or-places_to (suc m) k xs lt =
    ⊎_elim
    (λ (a : k < m). get_or_append_left (places_to m xs) (place_of (suc m) xs ∷ []) 0 k
    (omega (arith, a, length-places_to m xs)) ∙ get_or-places_to m k xs a)
    (λ (a : m ≤ k).
    let e : k ≡ m = omega (arith, a, lt) in
    get_or_at (places_to m xs) (place_of (suc m) xs) [] 0 k (length-places_to m xs ∙ sym e)
    ∙ ap (λ u. place_of (suc u) xs) (sym e))
    (cases_lt k m)

-- each tour has an array of the positions of its cities
pub places_exist : (xs : List ℕ) → IsTour (length xs) xs → (place : List ℕ) × IsInverse xs place
places_exist xs tour = (
  places_to (length xs) xs,
  (
    length-places_to (length xs) xs,
    λ k lt.
        let r = city_in_range (length xs) xs k tour lt in
        let c : ℕ = get_or xs k 0 in
        let e : suc (c - 1) ≡ c = omega (arith, r) in (
          r.0,
          r.1,
          get_or-places_to (length xs) (c - 1) xs (omega (arith, r)) ∙ ap (λ u. place_of u xs) e
              ∙ place_of-get_or xs k (HoldsOnce-tour (length xs) xs tour) lt,
        ),
  ),
)

-- b and d are cities of the tour
pub cities_after : (cities : List ℕ) (a b c d : ℕ) → IsTour (length cities) cities → AreForward cities a b c d →
    IsCity (length cities) b × IsCity (length cities) d
cities_after cities a b c d tour f =
    let p = places_exist cities tour in
    (rw f.b_after (next_city-in cities p.0 a tour p.1 f.a_in), rw f.d_after (next_city-in cities p.0 c tour p.1 f.c_in))

-- of the sides from b to c and from d to a, the one with at most half of the positions is the shorter side
module _ (cities : List ℕ) (n a b c d m pb pc : ℕ) (tour : IsTour (length cities) cities) (is_n : n ≡ length cities)
    (f : AreForward cities a b c d) (lb : pb < length cities) (atb : get_or cities pb 0 ≡ b) (lc : pc < length cities)
    (atc : get_or cities pc 0 ≡ c) (path : PathLength n m pb pc) where
  inverse : (place : List ℕ) × IsInverse cities place
  inverse = places_exist cities tour

  long : PathLength (length cities) m pb pc
  long = rw (← is_n) path

  eb : pb ≡ get_or inverse.0 (b - 1) 0
  eb = sym (place_is cities inverse.0 pb b inverse.1 lb (sym atb))

  ec : pc ≡ get_or inverse.0 (c - 1) 0
  ec = sym (place_is cities inverse.0 pc c inverse.1 lc (sym atc))

  inner : (0 < m) × (m < length cities) × ReplacesSteps cities (reversed_places pb m cities) a b c d
      × SidesAre cities (length cities - m) m a b c d
  inner =
      flip_inner cities inverse.0 a b c d m pb pc tour inverse.1 f.a_in f.c_in f.apart f.b_after f.d_after eb ec long

  pub inner_side : m ≤ n - m → TurnsShorterSide cities pb m a b c d
  inner_side le = record {
    steps = inner.2;
    within = lb;
    side = λ front back pf pk q. omega (arith, is_n, le, inner.3 front back pf pk q);
    shorter = omega (arith, is_n, le, inner.1);
  }

  pub outer_side : (pd : ℕ) → pd < length cities → get_or cities pd 0 ≡ d → n - m ≤ m →
      TurnsShorterSide cities pd (n - m) a b c d
  outer_side pd ld atd le = record {
    steps =
        rw is_n
        (flip_outer cities inverse.0 a b c d m pb pc pd tour inverse.1 f.a_in f.c_in f.apart f.b_after f.d_after eb ec
        (sym (place_is cities inverse.0 pd d inverse.1 ld (sym atd))) long);
    within = ld;
    side = λ front back pf pk q. omega (arith, is_n, le, inner.3 front back pf pk q);
    shorter = omega (arith, is_n, le, inner.1);
  }

-- if the edges do not run forward, they run forward with their ends exchanged
pub AreForward-backward : (cities : List ℕ) (a b c d : ℕ) → IsTour (length cities) cities → CanFlip cities a b c d →
    (b ≡ next_city cities a → d ≡ next_city cities c → ⊥) → AreForward cities d c b a
AreForward-backward cities a b c d tour h not_ahead =
    let p = places_exist cities tour in
    let k = only_backward cities a b c d h not_ahead in
    backward cities p.0 a b c d tour p.1 h.a_in h.c_in h.apart k.0 k.1

-- the sides are the same for a tour read backward
pub TurnsShorterSide-backward : (cities : List ℕ) (first count a b c d : ℕ) →
    TurnsShorterSide cities first count d c b a → TurnsShorterSide cities first count a b c d
TurnsShorterSide-backward cities first count a b c d h = record {
  steps = ReplacesSteps-backward cities (reversed_places first count cities) a b c d h.steps;
  within = h.within;
  side = IsShorterSide-backward cities count a b c d h.side;
  shorter = h.shorter;
}

-- the guarantees of a flip that reverses `count` positions from `first` on, counted from 0
pub record IsFlipped (old new : List ℕ) (first count a b c d : ℕ) : Type 0 where
  pub steps : ReplacesSteps old new a b c d
  pub made : TwoOptMove old new a b c d
  pub places : new ≡ reversed_places (first + 1 - 1) count old
  pub undone : reversed_places (first + 1 - 1) count new ≡ old
  pub reversed : AreReversed old new 1 (count / 2)
  pub size : length new ≡ length old

pub flipped : (old new : List ℕ) (first count a b c d : ℕ) → IsSizedTour old → CanFlip old a b c d →
    TurnsShorterSide old first count a b c d → new ≡ reversed_places first count old →
    IsFlipped old new first count a b c d
flipped old new first count a b c d tour can side e =
    let steps : ReplacesSteps old new a b c d = rw e side.steps in
    let z : first + 1 - 1 ≡ first = omega arith in
    record {
      steps = steps;
      made = TwoOptMove-from_steps old new a b c d tour can steps;
      places = e ∙ ap (λ v. reversed_places v count old) (sym z);
      undone = ap (λ v. reversed_places v count new) z
          ∙ reversed_places-undone first count old new e (omega (arith, side.within)) (omega (arith, side.shorter));
      reversed = AreReversed-one old new first count e side.within side.shorter;
      size = ap length e ∙ length-reversed_places first count old;
    }
