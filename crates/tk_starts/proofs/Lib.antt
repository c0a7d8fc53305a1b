pub mod Merging
pub mod NearestCities
