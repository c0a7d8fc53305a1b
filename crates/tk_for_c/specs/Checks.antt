-- Why the check of a tour or of a solution is rejected.
use Rattle.std.specs.Prelude.{ℕ, List}
use Rattle.tk_text.specs.Solution.{solution_texts}
use Rattle.tk_text.specs.Tour.{tour_texts}
use Rattle.tk_engines.specs.RouteCheck.{without_routing}
use Rattle.tk_for_c.specs.Answers.{IsFaulty, IsRightRefusal, NeverClashes, fits_any}
use Rattle.tk_for_c.specs.declared.answer.Answer.{Answer}

-- the answer reports correctly why a tour cannot be checked: the problem text or the tour text has a fault
abbrev pub IsCheckRefused : List ℕ → List ℕ → Answer → Type 0
IsCheckRefused problem tour answer =
    IsRightRefusal fits_any NeverClashes (λ _. IsFaulty tour_texts 2 tour) 1 problem answer

-- the answer reports correctly why routes cannot be checked: the problem text or the solution text has a fault, or the
-- problem has no routing
abbrev pub IsRouteCheckRefused : List ℕ → List ℕ → Answer → Type 0
IsRouteCheckRefused problem solution answer =
    IsRightRefusal without_routing NeverClashes (λ _. IsFaulty solution_texts 2 solution) 1 problem answer
