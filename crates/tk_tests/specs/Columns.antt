-- Cities in ten columns. The distance of two cities depends only on their columns.
use Rattle.std.proofs.Common.{◌≡◌, ℕ, ◌*◌, ◌%◌, ◌≤◌, pos, arith}
use Rattle.std.proofs.lemmas.Int.{ints}
use Rattle.tk_problem.specs.declared.limits.TheConstants.{DISTANCE_LIMIT}
use Rattle.tk_problem.specs.declared.point.Point.{Point}
use Rattle.tk_distance.specs.Distance.{gap, reach}

-- the column of a city
abbrev pub column : ℕ → ℕ
column c = c % 10

-- the difference of the columns of two cities
abbrev pub column_gap : ℕ → ℕ → ℕ
column_gap a b = gap (pos (column a)) (pos (column b))

-- the point of a city, whose y is greater than any distance
abbrev pub column_place : ℕ → Point
column_place c = record { x = pos (column c); y = pos (c * 1000) }

pub column_gap-swap : (a b : ℕ) → column_gap a b ≡ column_gap b a
column_gap-swap a b = omega (arith, ints)

pub column_gap-same : (a : ℕ) → column_gap a a ≡ 0
column_gap-same a = omega (arith, ints)

pub column_gap-limit : (a b : ℕ) → column_gap a b ≤ DISTANCE_LIMIT
column_gap-limit a b = omega (arith, ints)

pub column_gap-wide : (a b : ℕ) → column_gap a b ≤ reach
column_gap-wide a b = omega (arith, ints)

pub column_gap-floor : (a b : ℕ) → column_gap a b ≤ column_gap a b
column_gap-floor a b = omega arith
