-- Offers that a rule can be asked about.
use Rattle.std.specs.Prelude.{ℕ, List, [], ◌∷◌, length}
use Rattle.tk_descent.specs.Machine.{IsOfferOn}
use Rattle.tk_descent.specs.Offers.{EndsIn}
use Rattle.tk_descent.specs.declared.offer.Offer.{Offer}

-- each offer of a list is an F
abbrev pub Each : (Offer → Type 0) → List Offer → Type 0
Each F [] = Unit {0}
Each F (o ∷ os) = F o × Each F os

-- the move of the offer can be made on the cycle, and its ends are cities of it
abbrev pub IsOnTour : List ℕ → Offer → Type 0
IsOnTour C o = IsOfferOn 3 o C × EndsIn (length C) o
