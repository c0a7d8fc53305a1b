-- The contents of a problem as arrays.
--     ListIn A      a list that a problem has, or None: points_in, weights_in, demands_in
use Rattle.std.specs.Prelude.{◌≡◌, ◌≢◌, ◌≤◌, ◌⊎◌, ℕ, ℤ, List, Option, None, Some, length, option_map}
use Rattle.tk_problem.specs.declared.point.Point.{Point}
use Rattle.tk_text.specs.Problem.{ProblemIs, WeightsAre, problem_texts}
use Rattle.tk_text.specs.Problem as value
use Rattle.tk_for_c.specs.Answers.{IsFaulty}
use Rattle.tk_for_c.specs.Outcomes.{refused, with_status}
use Rattle.tk_for_c.specs.Points.{ArePlaces}
use Rattle.tk_for_c.specs.Texts.{TextSays}
use Rattle.tk_for_c.specs.declared.answer.Answer.{Answer}

-- ---- lists of a problem

-- a list that a problem has; None if it has no such list
abbrev pub ListIn : Type 0 → Type 0
ListIn A = ProblemIs → Option (List A)

abbrev pub points_of : WeightsAre → Option (List Point)
points_of (value.Points kind points) = Some points
points_of (value.Lower weights) = None

abbrev pub lower_of : WeightsAre → Option (List ℕ)
lower_of (value.Points kind points) = None
lower_of (value.Lower weights) = Some weights

-- the points of the cities, if there are coordinates
abbrev pub points_in : ListIn Point
points_in p = points_of p.weights

-- the explicit weights, if there are any: the lower triangle row by row without its diagonal
abbrev pub weights_in : ListIn ℕ
weights_in p = lower_of p.weights

-- the demands of the nodes of a CVRP
abbrev pub demands_in : ListIn ℕ
demands_in p = option_map (λ r. r.demand) p.routing

-- ---- answers about a list

-- the status is 4, and `needed` is the number of entries
abbrev pub IsCounted : {A : Type 0} → Option (List A) → Answer → Type 0
IsCounted {A} list answer = (entries : List A) × (list ≡ Some entries) × (answer ≡ with_status 4 (length entries))

-- there is no such list, which the answer reports by this kind
abbrev pub IsLack : {A : Type 0} → Option (List A) → ℕ → Answer → Type 0
IsLack list kind answer = (list ≡ None) × (answer ≡ refused 0 0 kind 0)

-- these are the coordinates of the points
abbrev pub ArePlacesIn : Option (List Point) → List ℤ → List ℤ → Type 0
ArePlacesIn list xs ys = (points : List Point) × (list ≡ Some points) × ArePlaces xs ys points

-- the status for two arrays: 0 if both have exactly as many entries as are needed, and 4 if one of them has not
pub record AreArraysStatus (count other : ℕ) (answer : Answer) : Type 0 where
  pub known : answer.status ≤ 4
  pub unclaimed : answer.status ≢ 1
  pub fits : answer.status ≡ 0 → answer ≡ with_status 0 count
  pub both : answer.status ≡ 0 → other ≡ count
  pub unwritten : answer.status ≡ 2 → answer.needed ≡ 0
  pub memory : answer.status ≡ 3 → answer ≡ with_status 3 0
  pub misfits : answer.status ≡ 4 → answer.needed ≡ count → answer.needed ≢ other

-- ---- the problem of a text

-- it has this list
pub record IsListOf {A : Type 0} (list : ListIn A) (problem : List ℕ) (entries : List A) : Type 0 where
  pub p : ProblemIs
  pub is_problem : TextSays problem_texts problem p
  pub is : list p ≡ Some entries

-- these are its coordinates
pub record ArePlacesOf (problem : List ℕ) (xs ys : List ℤ) : Type 0 where
  pub p : ProblemIs
  pub is_problem : TextSays problem_texts problem p
  pub are : ArePlacesIn (points_in p) xs ys

-- the status is 4, and `needed` is the number of entries of its list
pub record IsListCount {A : Type 0} (list : ListIn A) (problem : List ℕ) (answer : Answer) : Type 0 where
  pub p : ProblemIs
  pub is_problem : TextSays problem_texts problem p
  pub is : IsCounted (list p) answer

-- it has no such list, which the answer reports by this kind
pub record IsLackOf {A : Type 0} (list : ListIn A) (kind : ℕ) (problem : List ℕ) (answer : Answer) : Type 0 where
  pub p : ProblemIs
  pub is_problem : TextSays problem_texts problem p
  pub is : IsLack (list p) kind answer

-- the answer reports correctly why no list was written: the text has the fault, or its problem has no such list
abbrev pub IsListRefused : {A : Type 0} → ListIn A → ℕ → List ℕ → Answer → Type 0
IsListRefused list kind problem answer = IsFaulty problem_texts 1 problem answer ⊎ IsLackOf list kind problem answer
