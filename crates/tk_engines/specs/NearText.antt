-- The near lists of a problem, and their text.
use Rattle.std.specs.Prelude.{◌≡◌, ℕ, ◌-◌, true, min, List, None, flat_map}
use Rattle.std.specs.List.{range_with_len}
use Rattle.tk_near.specs.Near.{NearLists, AreNearest, near_of}
use Rattle.tk_problem_text.specs.Problem.{ProblemIs}
use Rattle.tk_writers.specs.Written.{near_line}
use Rattle.tk_engines.specs.ReadProblems.{read_distance}
use Rattle.tk_engines.specs.Engine.{NoClash, Task, written_as}

-- a line for each city
abbrev pub near_text : NearLists → List ℕ
near_text v = flat_map (λ c. near_line c (near_of v c)) (range_with_len 1 v.size)

-- the near lists of a problem, with k cities each, or all other cities if there are fewer
pub record IsNearOf (p : ProblemIs) (k : ℕ) (v : NearLists) : Type 0 where
  pub size : v.size ≡ p.n
  pub width : v.width ≡ min k (p.n - 1)
  pub near : AreNearest (read_distance p.weights) v

-- the task of finding the near lists of a problem, which any problem fits
abbrev pub near_outcome_task : ℕ → Task (Unit {0}) NearLists (Unit {0})
near_outcome_task k =
    record { misfit = λ _. None; IsClash = NoClash; takes_memory = true; Gives = λ p _ v _. IsNearOf p k v }

-- the task of writing them
abbrev pub near_task : ℕ → Task (Unit {0}) (Unit {0}) (List ℕ)
near_task k = written_as (near_outcome_task k) (λ _. tt) near_text
