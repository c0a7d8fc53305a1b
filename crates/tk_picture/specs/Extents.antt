-- The positions of points in a picture.
--     IsExtent places f      the smallest rectangle that contains all points
--     across f p, down f p      the distances of a point from its left side and from its top
--     view_height f      the height of the view of a picture
--     drawn_from_left f, drawn_from_top f      the position of the drawing in the view
use Rattle.std.specs.Prelude.{ℕ, ◌*◌, ◌/◌, ◌+◌, ◌-◌, max, ℤ, ◌≤ℤ◌, List, All, Contains, map}
use Rattle.std.specs.Int.{div_ceil}
use Rattle.tk_problem.specs.declared.point.Point.{Point}
use Rattle.tk_picture.specs.declared.extent.Extent.{Extent}
use Rattle.tk_distance.specs.Distance.{gap}

-- one of the numbers, which bounds all of them
pub record IsBound (Bounds : ℤ → ℤ → Type 0) (bound : ℤ) (zs : List ℤ) : Type 0 where
  pub one : Contains zs bound
  pub all : All (Bounds bound) zs

-- no number is lower
abbrev pub IsLowest : ℤ → List ℤ → Type 0
IsLowest = IsBound (λ least z. least ≤ℤ z)

-- no number is higher
abbrev pub IsHighest : ℤ → List ℤ → Type 0
IsHighest = IsBound (λ greatest z. z ≤ℤ greatest)

-- the smallest rectangle that contains all points
pub record IsExtent (places : List Point) (f : Extent) : Type 0 where
  pub left : IsLowest f.left (map (λ p. p.x) places)
  pub right : IsHighest f.right (map (λ p. p.x) places)
  pub bottom : IsLowest f.bottom (map (λ p. p.y) places)
  pub top : IsHighest f.top (map (λ p. p.y) places)

-- the distances of a point from the left side and from the top, in ten-thousandths of the longer side
abbrev pub across : Extent → Point → ℕ
across f p = gap p.x f.left * 10000 / f.side

abbrev pub down : Extent → Point → ℕ
down f p = gap f.top p.y * 10000 / f.side

-- the width and the height of the drawing, in thousandths of the longer side
abbrev pub drawn_width : Extent → ℕ
drawn_width f = div_ceil (gap f.right f.left * 1000) f.side

abbrev pub drawn_height : Extent → ℕ
drawn_height f = div_ceil (gap f.top f.bottom * 1000) f.side

-- the height of its room: at least 200, for a width of 1,000, so that points on one line are visible
abbrev pub room_height : Extent → ℕ
room_height f = max 200 (drawn_height f)

-- the height of the view, with margins of 20 and a title of 40
abbrev pub view_height : Extent → ℕ
view_height f = 80 + room_height f

-- the position of the drawing, in the middle of its room
abbrev pub drawn_from_left : Extent → ℕ
drawn_from_left f = 20 + (1000 - drawn_width f) / 2

abbrev pub drawn_from_top : Extent → ℕ
drawn_from_top f = 60 + (room_height f - drawn_height f) / 2
