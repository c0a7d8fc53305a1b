pub mod Lists
pub mod Pairs
pub mod Parts
pub mod Paths
