pub mod DepotList
pub mod FixedSections
pub mod Rows
pub mod WeightSection
