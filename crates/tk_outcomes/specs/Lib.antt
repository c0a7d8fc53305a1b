pub mod Infos
pub mod Lines
pub mod TourOutcomes
