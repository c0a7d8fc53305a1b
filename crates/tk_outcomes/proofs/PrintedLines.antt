pub mod Decimals
pub mod InfoLines
pub mod Labels
pub mod LineLengths
pub mod RouteLines
pub mod RunLines
pub mod TourLines
