-- The points of a metric in the plane.
use Rattle.std.specs.Prelude.{ℕ, List, ◌-◌, slice_index_or, ⊤}
use Rattle.tk_problem.specs.declared.point.Point.{Point}
use Rattle.tk_problem.specs.declared.points.Places.{Places}
use Rattle.tk_problem.specs.declared.points.Places.TheVariants.{Whole, Fine}
use Rattle.tk_problem.specs.declared.weights.PlaneKind.{PlaneKind}
use Rattle.tk_problem.specs.Places.{origin}
use Rattle.tk_distance.specs.Distance.{IsDistanceOf}
use Rattle.tk_distance.specs.PlaneDistance.{distance_of}

-- the point of city c; cities are numbered from 1
abbrev pub city_place : List Point → ℕ → Point
city_place places c = slice_index_or places (c - 1) origin

-- the distance of two cities
abbrev pub city_distance : PlaneKind → List Point → ℕ → ℕ → ℕ
city_distance kind places a b = distance_of kind (city_place places a) (city_place places b)

-- d is the distance of two cities
abbrev pub IsCityDistance : PlaneKind → List Point → ℕ → ℕ → ℕ → Type 0
IsCityDistance kind places a b d = IsDistanceOf kind (city_place places a) (city_place places b) d

-- points whose coordinates are all whole numbers of a unit, and are stored as such
abbrev pub AreWhole : Places → Type 0
AreWhole (Whole _ _) = ⊤
AreWhole (Fine _) = ⊥
