pub mod Keeping
pub mod Kept
pub mod Unvisited
pub mod ListLengths
pub mod Near
pub mod CityPoint
pub mod Sweep
pub mod Tree
