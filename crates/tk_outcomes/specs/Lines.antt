pub mod BetweenLines
pub mod InfoLines
pub mod Parts
pub mod RouteLine
pub mod SolveLines
pub mod TourLine
