-- The faults of a list that `from_list` rejects.
use Rattle.std.specs.Prelude.{ℕ, ◌<◌, ◌≤◌, ◌⊎◌, List, length}
use Rattle.tk_problem.specs.declared.limits.TheConstants.{CITY_LIMIT}
use Rattle.tk_tour.specs.Verdict.{IsVerdict}
use Rattle.tk_tour.specs.declared.verdict.Verdict.TheVariants.{OutOfRange, RepeatedCity}
use Rattle.tk_tour.specs.declared.fault.TourFault.{TourFault}
use Rattle.tk_tour.specs.declared.fault.TourFault.TheVariants as fault

-- a tour has 2 to 100,000 cities
abbrev pub IsTourSize : ℕ → Type 0
IsTourSize n = (2 ≤ n) × (n ≤ CITY_LIMIT)

-- the count comes first; a list with this number of cities that is not a tour has the fault of its verdict
abbrev pub HasTourFault : List ℕ → TourFault → Type 0
HasTourFault cities fault.WrongCount = (length cities < 2) ⊎ (CITY_LIMIT < length cities)
HasTourFault cities (fault.OutOfRange p) =
    IsTourSize (length cities) × IsVerdict (length cities) cities (OutOfRange p)
HasTourFault cities (fault.RepeatedCity p) =
    IsTourSize (length cities) × IsVerdict (length cities) cities (RepeatedCity p)
HasTourFault cities fault.NoMemory = IsTourSize (length cities)
