-- Complete lists of offers.
use Rattle.std.proofs.Common.{◌≡◌, ℕ, ◌⊎◌, List, [], ◌∷◌}
use Rattle.tk_descent.specs.Offers.{offers, removed, added, Makes}
use Rattle.tk_descent.specs.WakeMachine.{IsOfferOf}
use Rattle.tk_descent.specs.declared.offer.Offer.{Offer}

abbrev pub IsListed : List Offer → Offer → Type 0
IsListed [] o = ⊥
IsListed (p ∷ os) o = (p ≡ o) ⊎ IsListed os o

-- with any symmetric distances, the two offers remove the same length and add the same length: their edges are the same
-- except for order and direction
abbrev pub HasSameSteps : Offer → Offer → Type 0
HasSameSteps p o = (d : ℕ → ℕ → ℕ) → ((a b : ℕ) → d a b ≡ d b a) → (removed d p ≡ removed d o) × (added d p ≡ added d o)

-- for each move of x, the list of x contains an offer with the same edges, whose move makes the same cycle
abbrev pub IsComplete : List ℕ → ℕ → (ℕ → List ℕ) → ℕ → Type 0
IsComplete C m near x =
    (o : Offer) (D : List ℕ) → IsOfferOf near x o → Makes m o C D → (p : Offer) × IsListed (offers C m (near x) x) p
    × HasSameSteps p o × Makes m p C D
