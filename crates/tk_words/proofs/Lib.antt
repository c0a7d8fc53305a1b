pub mod BoolLaws
pub mod DecidedTexts
pub mod FirstBytes
pub mod NoWord
pub mod NumberLaws
pub mod Spelling
pub mod ReportedFaults
