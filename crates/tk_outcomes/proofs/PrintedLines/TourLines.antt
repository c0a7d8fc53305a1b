-- Lengths of the lines of outcomes of checks of tours.
use Rattle.std.proofs.Common.{◌^◌, ◌≤◌, length, length-append, arith}
use Rattle.tk_writers.proofs.Pieces.NumberLengths.{length_decimal}
use Rattle.tk_outcomes.specs.declared.tour.TourOutcome.{TourOutcome}
use Rattle.tk_outcomes.specs.declared.tour.TourOutcome.TheVariants.{Tour, WrongCount, OutOfRange, RepeatedCity}
use Rattle.tk_outcomes.specs.Lines.TourLine.{outcome_line}

-- a line is short
pub outcome_line_short : (o : TourOutcome) → length (outcome_line o) ≤ 2 ^ 63
outcome_line_short (Tour cities size) = let a = length_decimal cities in let b = length_decimal size in
    simp length-append (omega arith)
outcome_line_short (WrongCount wanted read) = let a = length_decimal wanted in let b = length_decimal read in
    simp length-append (omega arith)
outcome_line_short (OutOfRange place city) = let a = length_decimal place in let b = length_decimal city in
    simp length-append (omega arith)
outcome_line_short (RepeatedCity place city) = let a = length_decimal place in let b = length_decimal city in
    simp length-append (omega arith)
