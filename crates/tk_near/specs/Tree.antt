-- The k-d tree of the cities, and the candidates that a search of it keeps.
use Rattle.std.specs.Prelude.{ℕ, ◌≤ℤ◌, ◌+◌, ◌≤◌, ◌⊎◌, ◌==◌, if◌then◌else◌, List, [], ◌∷◌, ◌++◌, All, ⊤}
use Rattle.tk_near.specs.declared.candidates.Candidate.{Candidate}
use Rattle.tk_near.specs.declared.plane.city_point.CityPoint.{CityPoint}
use Rattle.tk_near.specs.declared.plane.tree.Bounds.{Bounds}
use Rattle.tk_near.specs.declared.plane.tree.Tree.{Tree, Leaf, Split'}
use Rattle.tk_near.specs.Keeping.{candidate, with_candidate, rank}
use Rattle.tk_near.specs.CityPoint.{x_gap, y_gap}

-- the cities of a tree, in its order
abbrev pub entries_of : Tree → List CityPoint
entries_of (Leaf row) = row.items
entries_of (Split' a p s b q t) = entries_of s ++ entries_of t

-- a city is in a box
pub record IsInBox (f : Bounds) (p : CityPoint) : Type 0 where
  pub left : f.left ≤ℤ p.place.x
  pub right : p.place.x ≤ℤ f.right
  pub bottom : f.bottom ≤ℤ p.place.y
  pub top : p.place.y ≤ℤ f.top
  pub least : f.least ≤ p.city
  pub greatest : p.city ≤ f.greatest

-- the cities of each subtree are in its box
abbrev pub IsFramed : Tree → Type 0
IsFramed (Leaf row) = ⊤
IsFramed (Split' a p s b q t) =
    All (IsInBox a) (entries_of s) × All (IsInBox b) (entries_of t) × IsFramed s × IsFramed t

-- the cities of a half are in its box, and those of each of its subtrees are in theirs
abbrev pub IsHalf : Bounds → Tree → Type 0
IsHalf f t = All (IsInBox f) (entries_of t) × IsFramed t

-- p differs from here by at least this much in x or in y
abbrev pub IsBeyond : CityPoint → ℕ → CityPoint → Type 0
IsBeyond here gap p = (gap ≤ x_gap here p) ⊎ (gap ≤ y_gap here p)

-- seen from c, a city does not come before this candidate
abbrev pub IsFrom : (ℕ → ℕ → ℕ) → ℕ → Candidate → CityPoint → Type 0
IsFrom dist c first p = rank first ≤ rank (candidate dist c p.city)

-- the candidates kept, after c has seen a city
abbrev pub with_city : (ℕ → ℕ → ℕ) → ℕ → CityPoint → List Candidate → List Candidate
with_city dist c p kept = if p.city == c then kept else with_candidate (candidate dist c p.city) kept

-- the candidates kept, after c has seen these cities
abbrev pub with_cities : (ℕ → ℕ → ℕ) → ℕ → List CityPoint → List Candidate → List Candidate
with_cities dist c [] kept = kept
with_cities dist c (p ∷ ps) kept = with_cities dist c ps (with_city dist c p kept)

-- the number of nodes of a tree
abbrev pub parts_of : Tree → ℕ
parts_of (Leaf row) = 1
parts_of (Split' a p s b q t) = parts_of s + parts_of t + 1
