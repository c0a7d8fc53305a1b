-- What is known of the problem of a text, as a struct for C.
use Rattle.std.specs.Prelude.{◌≡◌, ℕ, pos, false, List, Option, None, Some, is_some}
use Rattle.tk_text.specs.Problem.{ProblemIs, problem_texts}
use Rattle.tk_outcomes.specs.Infos.{IsInfo}
use Rattle.tk_outcomes.specs.declared.info.Area.{Area}
use Rattle.tk_outcomes.specs.declared.info.DistanceInfo.{DistanceInfo}
use Rattle.tk_outcomes.specs.declared.info.DistanceInfo.TheVariants.{Explicit, Plane}
use Rattle.tk_outcomes.specs.declared.info.ProblemInfo.{ProblemInfo}
use Rattle.tk_outcomes.specs.declared.info.RoutingInfo.{RoutingInfo}
use Rattle.tk_for_c.specs.Points.{kind_number}
use Rattle.tk_for_c.specs.Texts.{IsWritten, TextSays}
use Rattle.tk_for_c.specs.declared.answer.Answer.{Answer}
use Rattle.tk_for_c.specs.declared.info.Info.{Info}

-- the number of a distance type; 5 for explicit weights
abbrev pub distances_number : DistanceInfo → ℕ
distances_number (Plane kind area) = kind_number kind
distances_number Explicit = 5

-- the bounds of coordinates; 0 without coordinates
abbrev pub area_in : DistanceInfo → Area
area_in (Plane kind area) = area
area_in Explicit = record { whole = false; left = pos 0; right = pos 0; bottom = pos 0; top = pos 0 }

-- the routing data; 0 for a TSP
abbrev pub routing_in : Option RoutingInfo → RoutingInfo
routing_in None = record { capacity = 0; depot = 0; demand = 0; vehicles = 0 }
routing_in (Some r) = r

-- what is known of a problem, apart from its name
abbrev pub info_struct : ProblemInfo → Info
info_struct i = record {
  dimension = i.dimension;
  distances = distances_number i.distances;
  depot = (routing_in i.routing).depot;
  capacity = (routing_in i.routing).capacity;
  demand = (routing_in i.routing).demand;
  vehicles = (routing_in i.routing).vehicles;
  left = (area_in i.distances).left;
  right = (area_in i.distances).right;
  bottom = (area_in i.distances).bottom;
  top = (area_in i.distances).top;
  is_cvrp = is_some i.routing;
  is_whole = (area_in i.distances).whole;
}

-- what is known of the problem of a text
pub record IsInfoOf (problem : List ℕ) (info : ProblemInfo) : Type 0 where
  pub p : ProblemIs
  pub is_problem : TextSays problem_texts problem p
  pub is : IsInfo p info

-- the numbers are those of the problem of a text, and its name was written to the buffer
abbrev pub IsInfoWritten : List ℕ → Info → List ℕ → List ℕ → Answer → Type 0
IsInfoWritten problem info old new answer =
    (known : ProblemInfo) × IsInfoOf problem known × (info ≡ info_struct known)
    × IsWritten 0 known.name.items old new answer
