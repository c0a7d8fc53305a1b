-- The matrix of a problem.
use Rattle.std.specs.Prelude.{◌≡◌, ◌≤◌, ℕ, false, List, Option, Some, None, nat_lt, if◌then◌else◌}
use Rattle.tk_problem.specs.declared.limits.TheConstants.{TABLE_LIMIT}
use Rattle.tk_problem.specs.declared.problem.Problem.{Problem}
use Rattle.tk_problem.specs.declared.weights.Format.{Format}
use Rattle.tk_writers.specs.MatrixText.{matrix_text}
use Rattle.tk_problem_text.specs.Names.{IsName}
use Rattle.tk_problem_text.specs.Problem.{ProblemIs, Lower, problem_texts}
use Rattle.tk_problem_text.specs.ProblemOf.{problem_is}
use Rattle.tk_writers.specs.ReadBack.{IsReadBackAs, lower_triangle}
use Rattle.tk_engines.specs.ReadProblems.{read_distance}
use Rattle.tk_engines.specs.Engine.{Task, NoClash}
use Rattle.tk_engines.specs.declared.fault.Fault.{Fault}
use Rattle.tk_engines.specs.declared.fault.Fault.TheVariants.{TooLarge}

abbrev pub matrix_of : ProblemIs → Format → List ℕ
matrix_of p format = matrix_text p.name p.n (read_distance p.weights) format

-- the TSP with the name and the distances of a problem
abbrev pub by_distances : ProblemIs → ProblemIs
by_distances p =
    record { name = p.name; n = p.n; weights = Lower (lower_triangle p.n (read_distance p.weights)); routing = None }

-- a text within the length limit, which is read as this problem
abbrev pub IsReadAs : List ℕ → ProblemIs → Type 0
IsReadAs text p = IsReadBackAs problem_texts text p

-- the text of a problem's matrix, which is read as the problem's distances
pub record IsMatrixText (format : Format) (p : ProblemIs) (text : List ℕ) : Type 0 where
  pub is : text ≡ matrix_of p format
  pub read_back : IsReadAs text (by_distances p)

-- a matrix has at most 5,000 nodes
abbrev pub too_large : ProblemIs → Option Fault
too_large p = if nat_lt TABLE_LIMIT p.n then Some TooLarge else None

-- the problem that was read, if its matrix can be written
pub record HasMatrix (p : ProblemIs) (problem : Problem) : Type 0 where
  pub is : problem_is problem ≡ p
  pub few : problem.n ≤ TABLE_LIMIT
  pub named : IsName problem.name.items

-- the task of reading such a problem, which takes no memory
abbrev pub matrix_outcome_task : Task (Unit {0}) Problem (Unit {0})
matrix_outcome_task = record {
  misfit = too_large;
  IsClash = NoClash;
  takes_memory = false;
  Gives = λ p _ problem _. HasMatrix p problem;
}

-- the task of writing the matrix of a problem, which takes no memory
abbrev pub matrix_task : Format → Task (Unit {0}) (Unit {0}) (List ℕ)
matrix_task format =
    record { misfit = too_large; IsClash = NoClash; takes_memory = false; Gives = λ p _ _. IsMatrixText format p }
