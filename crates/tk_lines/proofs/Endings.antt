pub mod AfterMinusOne
pub mod MinusOneSteps
pub mod ReaderEnds
pub mod TextEnds
