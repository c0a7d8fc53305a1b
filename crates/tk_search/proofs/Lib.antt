pub mod DoubleBridge
pub mod SearchTrials
