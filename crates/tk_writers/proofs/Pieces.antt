pub mod NumberLengths
pub mod PutEach
pub mod Putting
pub mod Writing
