pub mod AnyItem
pub mod Lengths
pub mod TableLookups
