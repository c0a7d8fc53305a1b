-- Lengths of the lines that tell verdicts on routes.
use Rattle.std.proofs.Common.{◌^◌, ◌≤◌, length, length-append, arith}
use Rattle.std.specs.Int.RustNames.{unsigned_abs}
use Rattle.tk_writers.proofs.Pieces.NumberLengths.{length_decimal}
use Rattle.tk_routes.specs.declared.checking.verdict.RouteVerdict.{RouteVerdict}
use Rattle.tk_routes.specs.declared.checking.verdict.RouteVerdict.TheVariants.{Valid, BadCustomer, ServedTwice}
use Rattle.tk_routes.specs.declared.checking.verdict.RouteVerdict.TheVariants.{OverCapacity, NotServed, WrongCost}
use Rattle.tk_outcomes.specs.Lines.RouteLine.{route_verdict_line}

-- a line is short
pub route_line_short : (v : RouteVerdict) → length (route_verdict_line v) ≤ 2 ^ 63
route_line_short (Valid routes cost) = let a = length_decimal routes in let b = length_decimal (unsigned_abs cost) in
    simp length-append (omega arith)
route_line_short (BadCustomer route number) = let a = length_decimal route in let b = length_decimal number in
    simp length-append (omega arith)
route_line_short (ServedTwice customer) = let a = length_decimal customer in simp length-append (omega arith)
route_line_short (OverCapacity route load) = let a = length_decimal route in let b = length_decimal load in
    simp length-append (omega arith)
route_line_short (NotServed customer) = let a = length_decimal customer in simp length-append (omega arith)
route_line_short (WrongCost read counted) = let a = length_decimal (unsigned_abs read) in
    let b = length_decimal (unsigned_abs counted) in simp length-append (omega arith)
