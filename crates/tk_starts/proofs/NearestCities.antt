pub mod NearestPaths
pub mod NearestTours
pub mod OneTour
