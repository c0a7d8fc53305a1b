use Rattle.std.proofs.Common.{◌≡◌, ℕ, ◌+◌, ◌-◌, ◌<◌, length, get_or}
use Rattle.tk_near.specs.declared.plane.city_point.CityPoint.{CityPoint}
use Rattle.tk_near.specs.CityPoint.{as_placed}
use Rattle.tk_near.proofs.plane.city_point.row_of.Given as goal

abbrev pub invariant-loop-c : goal.invariant-loop-c
invariant-loop-c g l = (length l.row.items ≡ l.c - 1)
    × ((j : ℕ) (d : CityPoint) → j < l.c - 1 → get_or l.row.items j d ≡ as_placed (g.P.Planar.place_of l.m) (j + 1))
