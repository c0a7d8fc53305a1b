pub mod Bounds
pub mod BoundedRuns
pub mod Cities
pub mod Runs
pub mod Searches
pub mod Settling
pub mod TrialSteps
pub mod Woken
