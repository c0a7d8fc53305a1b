-- Arrays of numbers: distances, near lists, and the verdict on a list.
use Rattle.std.specs.Prelude.{◌≡◌, ◌≢◌, ◌≤◌, ◌<◌, ◌*◌, ◌/◌, ◌%◌, ◌+◌, ◌-◌, ℕ, ℤ, pos, List, length, slice_index_or, min}
use Rattle.tk_text.specs.Problem.{ProblemIs, problem_texts}
use Rattle.tk_engines.specs.ReadProblems.{read_distance}
use Rattle.tk_metric.specs.Near.{AreNearest}
use Rattle.tk_tour.specs.Tour.{tour_length}
use Rattle.tk_tour.specs.Verdict.{IsVerdict}
use Rattle.tk_tour.specs.declared.verdict.Verdict.{Verdict}
use Rattle.tk_for_c.specs.Outcomes.{with_status, verdict_answer}
use Rattle.tk_for_c.specs.Texts.{TextSays}
use Rattle.tk_for_c.specs.declared.answer.Answer.{Answer}

-- the distances of n cities, row by row: the distance of cities a and b is at index (a - 1) n + (b - 1)
pub record AreDistances (n : ℕ) (distance : ℕ → ℕ → ℕ) (entries : List ℤ) : Type 0 where
  pub count : length entries ≡ n * n
  pub each : (i : ℕ) → i < n * n → slice_index_or entries i (pos 0) ≡ pos (distance (i / n + 1) (i % n + 1))

-- the distances of the problem of a text
pub record AreDistancesOf (problem : List ℕ) (entries : List ℤ) : Type 0 where
  pub p : ProblemIs
  pub is_problem : TextSays problem_texts problem p
  pub are : AreDistances p.n (read_distance p.weights) entries

-- the near lists of n cities, one after another: k cities each, or all other cities if there are fewer
abbrev pub AreNearIn : ℕ → (ℕ → ℕ → ℕ) → ℕ → List ℕ → Type 0
AreNearIn n distance k entries =
    AreNearest distance (record { size = n; width = min k (n - 1); entries = entries })

-- the near lists of the problem of a text
pub record AreNearOf (k : ℕ) (problem : List ℕ) (entries : List ℕ) : Type 0 where
  pub p : ProblemIs
  pub is_problem : TextSays problem_texts problem p
  pub are : AreNearIn p.n (read_distance p.weights) k entries

-- the status for an array with `count` entries: 0 if exactly as many are needed, and 4 if another number is needed. It
-- is never 1, since there is no tour to check. After a rejection, or if memory ran out, `needed` is 0
pub record IsArrayStatus (count : ℕ) (answer : Answer) : Type 0 where
  pub known : answer.status ≤ 4
  pub unclaimed : answer.status ≢ 1
  pub fits : answer.status ≡ 0 → answer ≡ with_status 0 count
  pub unwritten : answer.status ≡ 2 → answer.needed ≡ 0
  pub memory : answer.status ≡ 3 → answer ≡ with_status 3 0
  pub misfits : answer.status ≡ 4 → answer.needed ≢ count

-- the status is 4, and `needed` is the number of entries
abbrev pub IsCountOf : (ProblemIs → ℕ) → List ℕ → Answer → Type 0
IsCountOf count problem answer = (p : ProblemIs) × TextSays problem_texts problem p × (answer ≡ with_status 4 (count p))

-- the answer reports the verdict on a list as a tour: its length, or the number of its first fault and its position
pub record HasVerdict (n : ℕ) (distance : ℕ → ℕ → ℕ) (cities : List ℕ) (answer : Answer) : Type 0 where
  pub verdict : Verdict
  pub is : IsVerdict n cities verdict
  pub answer_is : answer ≡ verdict_answer verdict (tour_length distance cities)

-- the answer reports the verdict on a list as a tour of the problem of a text
pub record IsTourCheckOf (problem cities : List ℕ) (answer : Answer) : Type 0 where
  pub p : ProblemIs
  pub is_problem : TextSays problem_texts problem p
  pub verdict : HasVerdict p.n (read_distance p.weights) cities answer
