-- The input of a search between routes.
use Rattle.std.specs.Prelude.{ℕ, Bool, List}
use Rattle.tk_distance.specs.declared.metric.Metric.{Ghosts}
use Rattle.tk_near.specs.Near.{NearLists}
use Rattle.tk_ring_search.specs.declared.trials.terms.RingTerms.{RingTerms}

-- the distances, the near lists, the capacity and the demands, the longest segment of an Or-opt move, whether descents
-- are swept, and the number of trials
pub record Given : Type 0 where
  pub distance : ℕ → ℕ → ℕ
  pub near : NearLists
  pub capacity : ℕ
  pub demands : List ℕ
  pub or_segment : ℕ
  pub sweep : Bool
  pub trials : ℕ

abbrev pub given_of : {M : Type 0} → Ghosts M → RingTerms M → Given
given_of m terms = record {
  distance = m.distance terms.metric.now;
  near = terms.near.now;
  capacity = terms.vehicles.capacity;
  demands = terms.vehicles.demands.now;
  or_segment = terms.or_segment;
  sweep = terms.sweep;
  trials = terms.trials;
}
