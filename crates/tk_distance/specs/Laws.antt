pub mod Distances
pub mod Planes
pub mod Weights
