-- What is known of a problem that was read.
--     IsInfo problem info      the value that the lines and the object of `info` are written from
--     AreDistances weights distances      how the distances are given, with the bounds of coordinates
--     routing_info routing      the total demand, and a lower bound on the number of vehicles
use Rattle.std.specs.Prelude.{◌≡◌, ◌%◌, ◌==◌, Bool, ◌&&◌, List, map, max, option_map}
use Rattle.std.specs.Int.{div_ceil}
use Rattle.std.specs.List.{list_all, sum}
use Rattle.std.specs.Int.RustNames.{unsigned_abs}
use Rattle.tk_problem.specs.Places.{scale}
use Rattle.tk_problem.specs.declared.point.Point.{Point}
use Rattle.tk_problem_text.specs.Problem.{ProblemIs, RoutingIs, WeightsAre}
use Rattle.tk_problem_text.specs.Problem as value
use Rattle.tk_picture.specs.Extents.{IsLowest, IsHighest}
use Rattle.tk_outcomes.specs.declared.info.Area.{Area}
use Rattle.tk_outcomes.specs.declared.info.DistanceInfo.{DistanceInfo}
use Rattle.tk_outcomes.specs.declared.info.DistanceInfo.TheVariants.{Plane, Explicit}
use Rattle.tk_outcomes.specs.declared.info.ProblemInfo.{ProblemInfo}
use Rattle.tk_outcomes.specs.declared.info.RoutingInfo.{RoutingInfo}

-- a point whose coordinates are whole numbers
abbrev pub is_whole : Point → Bool
is_whole p = unsigned_abs p.x % scale == 0 && unsigned_abs p.y % scale == 0

-- the bounds of points, and whether their coordinates are whole
pub record IsArea (points : List Point) (area : Area) : Type 0 where
  pub whole : area.whole ≡ list_all is_whole points
  pub left : IsLowest area.left (map (λ p. p.x) points)
  pub right : IsHighest area.right (map (λ p. p.x) points)
  pub bottom : IsLowest area.bottom (map (λ p. p.y) points)
  pub top : IsHighest area.top (map (λ p. p.y) points)

-- how the distances are given
abbrev pub AreDistances : WeightsAre → DistanceInfo → Type 0
AreDistances (value.Points kind points) (Plane reported area) = (reported ≡ kind) × IsArea points area
AreDistances (value.Lower weights) Explicit = Unit {0}
AreDistances _ _ = ⊥

-- the sum of the demands, and by it a lower bound on the number of vehicles
abbrev pub routing_info : RoutingIs → RoutingInfo
routing_info r = record {
  capacity = r.capacity;
  depot = r.depot;
  demand = sum r.demand;
  vehicles = div_ceil (sum r.demand) (max 1 r.capacity);
}

pub record IsInfo (problem : ProblemIs) (info : ProblemInfo) : Type 0 where
  pub name : info.name.items ≡ problem.name
  pub dimension : info.dimension ≡ problem.n
  pub distances : AreDistances problem.weights info.distances
  pub routing : info.routing ≡ option_map routing_info problem.routing
