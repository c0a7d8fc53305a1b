pub mod WrittenFronts
pub mod NoSegment
pub mod SeenTours
