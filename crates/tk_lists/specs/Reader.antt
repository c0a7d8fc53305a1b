pub mod SolutionReader
pub mod SolutionSteps
pub mod TourHandler
