pub mod BridgeLength
pub mod Kicks
pub mod KickSwaps
