-- The distances of a table.
use Rattle.std.specs.Prelude.{◌≡◌, ◌≤◌, ℕ, length}
use Rattle.tk_problem.specs.declared.limits.TheConstants.{CITY_LIMIT, DISTANCE_LIMIT}
use Rattle.tk_problem.specs.PlacesOf.{places_of}
use Rattle.tk_distance.specs.declared.table.Table.{Table}
use Rattle.tk_distance.specs.declared.table.Table.TheVariants.{Planes, Triangle}
use Rattle.tk_distance.specs.Laws.Planes.{distance_of-swap, distance_of-same, city_distance-limit}
use Rattle.tk_distance.specs.PlaneOf.{city_place, city_distance}
use Rattle.tk_distance.specs.Laws.Weights.{weight_between-swap, weight_between-same, weight_between-limit, few_cities}
use Rattle.tk_distance.specs.Weights.{weight_between}

-- the number of cities of a table
abbrev pub table_size : Table → ℕ
table_size (Planes m) = length (places_of m.places)
table_size (Triangle m) = m.n

-- the distance of two cities
abbrev pub table_distance : Table → ℕ → ℕ → ℕ
table_distance (Planes m) a b = city_distance m.kind (places_of m.places) a b
table_distance (Triangle m) a b = weight_between m.weights.now a b

pub table_size-limit : (t : Table) → table_size t ≤ CITY_LIMIT
table_size-limit (Planes m) = m.few
table_size-limit (Triangle m) = few_cities m.n m.few

pub table_distance-swap : (t : Table) (a b : ℕ) → table_distance t a b ≡ table_distance t b a
table_distance-swap (Planes m) a b =
    distance_of-swap m.kind (city_place (places_of m.places) a) (city_place (places_of m.places) b)
table_distance-swap (Triangle m) a b = weight_between-swap m.weights.now a b

pub table_distance-same : (t : Table) (a : ℕ) → table_distance t a a ≡ 0
table_distance-same (Planes m) a = distance_of-same m.kind (city_place (places_of m.places) a)
table_distance-same (Triangle m) a = weight_between-same m.weights.now a

pub table_distance-limit : (t : Table) (a b : ℕ) → table_distance t a b ≤ DISTANCE_LIMIT
table_distance-limit (Planes m) a b = city_distance-limit m.kind (places_of m.places) m.near a b
table_distance-limit (Triangle m) a b = weight_between-limit m.weights.now m.small a b
