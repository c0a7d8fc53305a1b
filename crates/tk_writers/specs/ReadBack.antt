-- How matrix texts, solution texts and tour texts are read back.
use Rattle.std.specs.Prelude.{◌≡◌, ◌≢◌, ℕ, ◌-◌, ◌*◌, ◌^◌, ◌<◌, ◌≤◌, List, length, map, flat_map, None, Ok, pos}
use Rattle.std.specs.List.{range_with_len, concat, AllByRecursion}
use Rattle.tk_problem.specs.declared.limits.TheConstants.{DISTANCE_LIMIT, ENTRY_LIMIT, ROUTE_LIMIT}
use Rattle.tk_problem.specs.declared.weights.Format.{Format}
use Rattle.tk_words.specs.declared.fault.TextFault.{TextFault}
use Rattle.tk_words.specs.Texts.{Texts, answer_of}
use Rattle.tk_writers.specs.MatrixText.{matrix_text}
use Rattle.tk_lists.specs.Solution.{solution_texts}
use Rattle.tk_writers.specs.SolutionWritten.{solution_text}
use Rattle.tk_lists.specs.Tour.{tour_texts}
use Rattle.tk_writers.specs.TourWritten.{tour_text}
use Rattle.tk_problem_text.specs.Problem.{Lower, problem_texts}
use Rattle.tk_problem_text.specs.Names.{IsName}

-- a text within the length limit, whose answer is this value
pub record IsReadBackAs {V : Type 0} (texts : Texts V TextFault) (text : List ℕ) (value : V) : Type 0 where
  pub fits : length text ≤ texts.limit
  pub answer : answer_of texts text ≡ Ok value

-- a table of weights that a problem can have
pub record IsTable (n : ℕ) (table : ℕ → ℕ → ℕ) : Type 0 where
  pub symmetric : (a b : ℕ) → 1 ≤ a → a ≤ n → 1 ≤ b → b ≤ n → table a b ≡ table b a
  pub weights : (a b : ℕ) → 1 ≤ a → a ≤ n → 1 ≤ b → b ≤ n → a ≢ b → table a b ≤ DISTANCE_LIMIT
  pub diagonal : (a : ℕ) → 1 ≤ a → a ≤ n → table a a < 10 ^ 18

-- the table below its diagonal, row by row
abbrev pub lower_triangle : ℕ → (ℕ → ℕ → ℕ) → List ℕ
lower_triangle n table = flat_map (λ a. map (table a) (range_with_len 1 (a - 1))) (range_with_len 1 n)

-- the text is read as a problem of this name and these weights
abbrev pub ReadsBack : List ℕ → ℕ → (ℕ → ℕ → ℕ) → Format → Type 0
ReadsBack name n table f =
    IsReadBackAs problem_texts (matrix_text name n table f)
    (record { name = name; n = n; weights = Lower (lower_triangle n table); routing = None })

-- routes and a cost that a solution text can have
pub record IsSolution (routes : List (List ℕ)) (cost : ℕ) : Type 0 where
  pub few : length routes ≤ ROUTE_LIMIT
  pub customers : length (concat routes) ≤ ENTRY_LIMIT
  pub small : AllByRecursion (AllByRecursion (λ customer. customer ≤ 4294967295)) routes
  pub cheap : cost < 10 ^ 18

-- the text is read as these routes and this cost
abbrev pub SolutionReadsBack : List (List ℕ) → ℕ → Type 0
SolutionReadsBack routes cost = IsReadBackAs solution_texts (solution_text routes cost) (routes, pos cost)

-- a name, a length and cities that a tour text can have; the name leaves room for the length and the ending `.tour`
pub record IsTourText (name : List ℕ) (size : ℕ) (cities : List ℕ) : Type 0 where
  pub named : IsName name
  pub room : length name ≤ 1000
  pub cheap : size ≤ 4 * 10 ^ 14
  pub some : 1 ≤ length cities
  pub few : length cities ≤ ENTRY_LIMIT
  pub small : AllByRecursion (λ city. city ≤ 4294967295) cities

-- the text is read as these cities
abbrev pub TourReadsBack : List ℕ → ℕ → List ℕ → Type 0
TourReadsBack name size cities = IsReadBackAs tour_texts (tour_text name size cities) cities
