-- Cities with their coordinates in two arrays.
use Rattle.std.specs.Prelude.{◌≡◌, ◌≤◌, ◌<◌, ℕ, ℤ, pos, List, length, slice_index_or}
use Rattle.tk_problem.specs.declared.limits.TheConstants.{CITY_LIMIT}
use Rattle.tk_problem.specs.declared.point.Point.{Point}
use Rattle.tk_problem.specs.declared.weights.PlaneKind.{PlaneKind}
use Rattle.tk_problem.specs.declared.weights.PlaneKind.TheVariants as kinds
use Rattle.tk_text.specs.Places.{IsNearOrigin, origin}
use Rattle.tk_metric.specs.PlaneOf.{city_distance}
use Rattle.tk_for_c.specs.Arrays.{AreNearIn, HasVerdict}
use Rattle.tk_for_c.specs.declared.answer.Answer.{Answer}

-- the number of a distance type
abbrev pub kind_number : PlaneKind → ℕ
kind_number kinds.Euc2d = 0
kind_number kinds.Ceil2d = 1
kind_number kinds.Man2d = 2
kind_number kinds.Max2d = 3
kind_number kinds.Att = 4

-- the point with the coordinates at an index
abbrev pub place_at : List ℤ → List ℤ → ℕ → Point
place_at xs ys i = record { x = slice_index_or xs i (pos 0); y = slice_index_or ys i (pos 0) }

-- the coordinates of 2 to 100,000 points, all within the limit
pub record CanBePlaces (xs ys : List ℤ) : Type 0 where
  pub some : 2 ≤ length xs
  pub few : length xs ≤ CITY_LIMIT
  pub count : length ys ≡ length xs
  pub near : (i : ℕ) → i < length xs → IsNearOrigin (place_at xs ys i)

-- the points with these coordinates
pub record ArePlaces (xs ys : List ℤ) (places : List Point) : Type 0 where
  pub count : length places ≡ length xs
  pub others : length ys ≡ length xs
  pub each : (i : ℕ) → i < length xs → slice_index_or places i origin ≡ place_at xs ys i

-- the near lists of the cities at these points, one after another
pub record ArePointsNear (kind : ℕ) (xs ys : List ℤ) (k : ℕ) (entries : List ℕ) : Type 0 where
  pub type : PlaneKind
  pub places : List Point
  pub type_is : kind_number type ≡ kind
  pub are : ArePlaces xs ys places
  pub near : AreNearIn (length xs) (city_distance type places) k entries

-- the answer reports the verdict on a list as a tour of the cities at these points
pub record IsPointsCheck (kind : ℕ) (xs ys : List ℤ) (cities : List ℕ) (answer : Answer) : Type 0 where
  pub type : PlaneKind
  pub places : List Point
  pub type_is : kind_number type ≡ kind
  pub are : ArePlaces xs ys places
  pub verdict : HasVerdict (length xs) (city_distance type places) cities answer
