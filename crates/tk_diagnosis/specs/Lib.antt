pub mod DistanceTypes
