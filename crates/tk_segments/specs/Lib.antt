pub mod Segments
pub mod SeenTours
pub mod SegmentTours
pub mod WriteLaws
pub mod Writes
