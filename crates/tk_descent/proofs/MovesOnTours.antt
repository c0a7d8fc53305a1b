pub mod Cities
pub mod GainLaw
pub mod Length
pub mod Paths
pub mod Rounds
pub mod Steps
pub mod Views
