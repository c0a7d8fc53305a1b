pub mod ListTokens
pub mod MiddleOfSection
pub mod SectionBytes
pub mod SectionEnds
pub mod SectionSteps
