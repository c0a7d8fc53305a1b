-- Tours as arrays: the cities of a text, and nearest-neighbour tours.
use Rattle.std.specs.Prelude.{◌≡◌, ◌⊎◌, ℕ, List, length}
use Rattle.tk_metric.specs.Cities.{IsCity}
use Rattle.tk_starts.specs.NearestTour.{IsNearestTour}
use Rattle.tk_text.specs.Problem.{ProblemIs, problem_texts}
use Rattle.tk_text.specs.Tour.{tour_texts}
use Rattle.tk_engines.specs.ReadProblems.{read_distance}
use Rattle.tk_for_c.specs.Answers.{IsFaulty}
use Rattle.tk_for_c.specs.Outcomes.{with_status}
use Rattle.tk_for_c.specs.Texts.{TextSays}
use Rattle.tk_for_c.specs.declared.answer.Answer.{Answer}

-- the status is 4, and `needed` is the number of cities that a tour text lists
pub record IsCityCount (tour : List ℕ) (answer : Answer) : Type 0 where
  pub cities : List ℕ
  pub is_tour : TextSays tour_texts tour cities
  pub is : answer ≡ with_status 4 (length cities)

-- the nearest-neighbour tour of the problem of a text, from this city
pub record IsNearestTourOf (start : ℕ) (problem cities : List ℕ) : Type 0 where
  pub p : ProblemIs
  pub is_problem : TextSays problem_texts problem p
  pub is : IsNearestTour (read_distance p.weights) p.n start cities

-- this is not the number of a city of the problem of a text, which the answer reports without a kind
pub record IsNoCityOf (start : ℕ) (problem : List ℕ) (answer : Answer) : Type 0 where
  pub p : ProblemIs
  pub is_problem : TextSays problem_texts problem p
  pub none : IsCity p.n start → ⊥
  pub reported : answer ≡ with_status 2 0

-- the answer reports correctly why no nearest-neighbour tour was written: the text has the fault, or its problem has no
-- such city
abbrev pub IsNearestRefused : ℕ → List ℕ → Answer → Type 0
IsNearestRefused start problem answer = IsFaulty problem_texts 1 problem answer ⊎ IsNoCityOf start problem answer
