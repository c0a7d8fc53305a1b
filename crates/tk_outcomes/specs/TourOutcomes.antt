-- The outcome of a check of a tour, by the verdict on the list.
use Rattle.std.specs.Prelude.{ℕ, ◌-◌, List, length, slice_index}
use Rattle.tk_tour.specs.Tour.{tour_length}
use Rattle.tk_tour.specs.declared.verdict.Verdict.{Verdict}
use Rattle.tk_tour.specs.declared.verdict.Verdict.TheVariants.{Tour, WrongCount, OutOfRange, RepeatedCity}
use Rattle.tk_outcomes.specs.Lines.TourLine.{outcome_line}
use Rattle.tk_outcomes.specs.declared.tour.TourOutcome.{TourOutcome}
use Rattle.tk_outcomes.specs.declared.tour.TourOutcome.TheVariants as outcomes

-- the outcome with this verdict on a list that should be a tour of n cities
abbrev pub outcome_of : ℕ → (ℕ → ℕ → ℕ) → List ℕ → Verdict → TourOutcome
outcome_of n distance cities Tour = outcomes.Tour n (tour_length distance cities)
outcome_of n distance cities WrongCount = outcomes.WrongCount n (length cities)
outcome_of n distance cities (OutOfRange p) = outcomes.OutOfRange p (slice_index cities (p - 1))
outcome_of n distance cities (RepeatedCity p) = outcomes.RepeatedCity p (slice_index cities (p - 1))

-- the line of the outcome with this verdict
abbrev pub verdict_line : ℕ → (ℕ → ℕ → ℕ) → List ℕ → Verdict → List ℕ
verdict_line n distance cities verdict = outcome_line (outcome_of n distance cities verdict)

-- the verdict of an outcome
abbrev pub verdict_in : TourOutcome → Verdict
verdict_in (outcomes.Tour cities length) = Tour
verdict_in (outcomes.WrongCount wanted read) = WrongCount
verdict_in (outcomes.OutOfRange place city) = OutOfRange place
verdict_in (outcomes.RepeatedCity place city) = RepeatedCity place
