-- The line with the outcome of the check of a tour.
use Rattle.std.specs.Prelude.{ℕ, List}
use Rattle.tk_writers.specs.Written.{tour_line, wrong_count_line, out_of_range_line, repeated_city_line}
use Rattle.tk_outcomes.specs.declared.tour.TourOutcome.{TourOutcome}
use Rattle.tk_outcomes.specs.declared.tour.TourOutcome.TheVariants.{Tour, WrongCount, OutOfRange, RepeatedCity}

abbrev pub outcome_line : TourOutcome → List ℕ
outcome_line (Tour cities length) = tour_line cities length
outcome_line (WrongCount wanted read) = wrong_count_line wanted read
outcome_line (OutOfRange place city) = out_of_range_line place city
outcome_line (RepeatedCity place city) = repeated_city_line place city
