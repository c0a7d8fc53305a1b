pub mod PairWeights
pub mod EqualPoints
pub mod LowerTriangle
pub mod UnitPoints
pub mod WeightCounts
pub mod WeightLines
pub mod WeightsSoFar
