-- Examples of distances.
use Rattle.std.specs.Prelude.{ℕ, List, [], ◌∷◌}
use Rattle.tk_problem.specs.declared.weights.PlaneKind.{PlaneKind}
use Rattle.tk_problem.specs.declared.weights.PlaneKind.TheVariants.{Euc2d, Ceil2d, Man2d, Max2d, Att}
use Rattle.tk_metric.specs.Distance.{IsDistance}

-- a type, the differences of two coordinates, in billionths, and the distance
pub record Example : Type 0 where
  pub kind : PlaneKind
  pub dx : ℕ
  pub dy : ℕ
  pub distance : ℕ

abbrev pub example : PlaneKind → ℕ → ℕ → ℕ → Example
example kind dx dy distance = record { kind = kind; dx = dx; dy = dy; distance = distance }

abbrev pub AreDistances : List Example → Type 0
AreDistances [] = Unit {0}
AreDistances (e ∷ es) = IsDistance e.kind e.dx e.dy e.distance × AreDistances es

-- the root rounded to the nearest, a half up; the last is from (-10^9, -10^9) to (10^9, 10^9)
abbrev pub euclidean : List Example
euclidean =
    example Euc2d 0 0 0
    ∷ example Euc2d 0 499999999 0
    ∷ example Euc2d 0 500000000 1
    ∷ example Euc2d 1000000000 1000000000 1
    ∷ example Euc2d 3000000000 4000000000 5
    ∷ example Euc2d 2000000000000000000 2000000000000000000 2828427125
    ∷ []

-- the root rounded up
abbrev pub rounded_up : List Example
rounded_up =
    example Ceil2d 0 0 0
    ∷ example Ceil2d 0 1 1
    ∷ example Ceil2d 1000000000 1000000000 2
    ∷ example Ceil2d 3000000000 4000000000 5
    ∷ example Ceil2d 3000000000 4000000001 6
    ∷ example Ceil2d 2000000000000000000 2000000000000000000 2828427125
    ∷ []

-- the sum rounded to the nearest
abbrev pub manhattan : List Example
manhattan =
    example Man2d 0 0 0
    ∷ example Man2d 200000000 299999999 0
    ∷ example Man2d 1200000000 1300000000 3
    ∷ example Man2d 2000000000000000000 2000000000000000000 4000000000
    ∷ []

-- the maximum, rounded to the nearest
abbrev pub maximum : List Example
maximum =
    example Max2d 0 0 0
    ∷ example Max2d 2400000000 2500000000 3
    ∷ example Max2d 2499999999 2400000000 2
    ∷ example Max2d 2000000000000000000 2000000000000000000 2000000000
    ∷ []

-- the root of a tenth of the square, rounded up
abbrev pub pseudo_euclidean : List Example
pseudo_euclidean =
    example Att 0 0 0
    ∷ example Att 1000000000 3000000000 1
    ∷ example Att 1000000000 3000000001 2
    ∷ example Att 10000000000 10000000000 5
    ∷ example Att 2000000000000000000 2000000000000000000 894427191
    ∷ []
