pub mod Answers
pub mod FaultWords
pub mod Faults
pub mod Remarks
