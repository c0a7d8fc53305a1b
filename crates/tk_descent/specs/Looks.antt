-- A look at a city.
use Rattle.std.specs.Prelude.{◌≡◌, ◌+◌, List, Option}
use Rattle.tk_tour.specs.Counters.{saturated}
use Rattle.tk_descent.specs.Offers.{first_gain, tests_to}
use Rattle.tk_descent.specs.declared.gains.Gains as gains
use Rattle.tk_descent.specs.declared.offer.Offer.{Offer}

-- a look by gains finds the first of the offers with positive gain, and tests those up to it
pub record Looked {G : Type 0} (table : gains.Ghosts G) (offers : List Offer) (old new : G) (found : Option Offer) :
    Type 0 where
  pub first : found ≡ first_gain (table.distance old) offers
  pub tests : table.test_count new ≡ saturated (table.test_count old + tests_to (table.distance old) offers)
