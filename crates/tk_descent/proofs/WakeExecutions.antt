pub mod DescentSteps
pub mod KeptTours
pub mod Machines
pub mod Passes
pub mod Queue
pub mod WokenQueue
