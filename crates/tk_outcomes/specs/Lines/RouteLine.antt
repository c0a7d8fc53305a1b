-- The line with a verdict on routes.
use Rattle.std.specs.Prelude.{ℕ, List, ◌++◌, codes, decimal}
use Rattle.std.specs.Int.RustNames.{unsigned_abs}
use Rattle.tk_writers.specs.Written.{line}
use Rattle.tk_routes.specs.declared.checking.verdict.RouteVerdict.{RouteVerdict}
use Rattle.tk_routes.specs.declared.checking.verdict.RouteVerdict.TheVariants.{Valid, BadCustomer, ServedTwice}
use Rattle.tk_routes.specs.declared.checking.verdict.RouteVerdict.TheVariants.{OverCapacity, NotServed, WrongCost}

-- there is no fault: the number of routes that have a customer, and their cost
abbrev pub valid_line : ℕ → ℕ → List ℕ
valid_line routes cost = line (decimal routes ++ codes " routes, cost " ++ decimal cost)

abbrev pub wrong_cost_line : ℕ → ℕ → List ℕ
wrong_cost_line read counted =
    line (codes "wrong cost: " ++ decimal read ++ codes " read, " ++ decimal counted ++ codes " counted")

-- the line with a verdict on routes
abbrev pub route_verdict_line : RouteVerdict → List ℕ
route_verdict_line (Valid routes cost) = valid_line routes (unsigned_abs cost)
route_verdict_line (BadCustomer route number) =
    line (codes "bad customer in route " ++ decimal route ++ codes ": " ++ decimal number)
route_verdict_line (ServedTwice customer) = line (codes "customer served twice: " ++ decimal customer)
route_verdict_line (OverCapacity route load) =
    line (codes "over capacity in route " ++ decimal route ++ codes ": " ++ decimal load)
route_verdict_line (NotServed customer) = line (codes "customer not served: " ++ decimal customer)
route_verdict_line (WrongCost read counted) = wrong_cost_line (unsigned_abs read) (unsigned_abs counted)
