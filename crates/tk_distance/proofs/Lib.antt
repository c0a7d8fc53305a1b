pub mod ExactRoots
pub mod PlaneReads
