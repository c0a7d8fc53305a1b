pub mod ByteRuns
pub mod HeaderBytes
pub mod HeaderNumbers
