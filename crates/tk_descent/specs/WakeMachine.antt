-- The wake machine: local search with a set of cities that wait for a look (don't-look bits: J. L. Bentley, 1992).
--     Improves, HasNoOffer, IsLocalOptimum, Wakes      of the TSP, in which every cycle fits
--     ImprovesUnder, .., WakesUnder      under a rule: a move is made only if the cycle after it fits
use Rattle.std.specs.Prelude.{◌≡◌, ℕ, ◌<◌, true, ◌⊎◌, ◌↔◌, ◌≢◌, List}
use Rattle.tk_tour.specs.Tour.{tour_length}
use Rattle.tk_distance.specs.Holding.{holds}
use Rattle.tk_descent.specs.Offers.{Makes, ends}
use Rattle.tk_descent.specs.declared.offer.Offer.{Offer}
use Rattle.tk_descent.specs.declared.offer.Offer.TheVariants.{Two, Or}

-- the move adds an edge from x to one of its near cities; if it is an Or-opt move, x is an end of its segment
abbrev pub IsOfferOf : (ℕ → List ℕ) → ℕ → Offer → Type 0
IsOfferOf near x (Two a b c d) = ((a ≡ x) × (holds (near x) c ≡ true)) ⊎ ((c ≡ x) × (holds (near x) a ≡ true))
    ⊎ ((b ≡ x) × (holds (near x) d ≡ true)) ⊎ ((d ≡ x) × (holds (near x) b ≡ true))
IsOfferOf near x (Or a s e b y w) = ((s ≡ x) × (holds (near x) y ≡ true)) ⊎ ((e ≡ x) × (holds (near x) w ≡ true))

-- the move of the offer o of x makes the cycle D of C, which is shorter, by the lengths of the whole cycles, and fits
abbrev pub ImprovesUnder : (List ℕ → Type 0) → (ℕ → ℕ → ℕ) → (ℕ → List ℕ) → ℕ → ℕ → List ℕ → Offer → List ℕ → Type 0
ImprovesUnder fits dist near m x C o D =
    IsOfferOf near x o × Makes m o C D × (tour_length dist D < tour_length dist C) × fits D

-- no offer of x on C improves it
abbrev pub HasNoOfferUnder : (List ℕ → Type 0) → (ℕ → ℕ → ℕ) → (ℕ → List ℕ) → ℕ → ℕ → List ℕ → Type 0
HasNoOfferUnder fits dist near m x C = (o : Offer) (D : List ℕ) → ImprovesUnder fits dist near m x C o D → ⊥

-- a cycle that no offer of any city improves
abbrev pub IsLocalOptimumUnder : (List ℕ → Type 0) → (ℕ → ℕ → ℕ) → (ℕ → List ℕ) → ℕ → List ℕ → Type 0
IsLocalOptimumUnder fits dist near m C = (x : ℕ) → holds C x ≡ true → HasNoOfferUnder fits dist near m x C

-- The wake machine, from a cycle and a set of waking cities. The set is given as a list, whose order and repetitions do
-- not matter.
pub data WakesUnder (fits : List ℕ → Type 0) (dist : ℕ → ℕ → ℕ) (near : ℕ → List ℕ) (m : ℕ) (T W : List ℕ) :
    List ℕ → List ℕ → Type 0 where
  start : WakesUnder fits dist near m T W T W
  asleep : {C V U : List ℕ} (x : ℕ) → WakesUnder fits dist near m T W C V → holds V x ≡ true →
      HasNoOfferUnder fits dist near m x C →
      ((c : ℕ) → (holds U c ≡ true) ↔ ((holds V c ≡ true) × (c ≢ x))) →
      WakesUnder fits dist near m T W C U
  move : {C V U D : List ℕ} (x : ℕ) (o : Offer) → WakesUnder fits dist near m T W C V → holds V x ≡ true →
      ImprovesUnder fits dist near m x C o D →
      ((c : ℕ) → (holds U c ≡ true) ↔ ((holds V c ≡ true) ⊎ (holds (ends o) c ≡ true))) →
      WakesUnder fits dist near m T W D U

-- The TSP: every cycle fits.
abbrev pub each_cycle : List ℕ → Type 0
each_cycle C = Unit {0}

abbrev pub Improves : (ℕ → ℕ → ℕ) → (ℕ → List ℕ) → ℕ → ℕ → List ℕ → Offer → List ℕ → Type 0
Improves = ImprovesUnder each_cycle

abbrev pub HasNoOffer : (ℕ → ℕ → ℕ) → (ℕ → List ℕ) → ℕ → ℕ → List ℕ → Type 0
HasNoOffer = HasNoOfferUnder each_cycle

abbrev pub IsLocalOptimum : (ℕ → ℕ → ℕ) → (ℕ → List ℕ) → ℕ → List ℕ → Type 0
IsLocalOptimum = IsLocalOptimumUnder each_cycle

abbrev pub Wakes : (ℕ → ℕ → ℕ) → (ℕ → List ℕ) → ℕ → List ℕ → List ℕ → List ℕ → List ℕ → Type 0
Wakes = WakesUnder each_cycle
