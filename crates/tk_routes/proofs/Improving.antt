pub mod DescendedRoutes
pub mod Exchanged
pub mod ImprovedSteps
pub mod Merged
pub mod Nodes
pub mod ReadOffs
pub mod Renumbered
pub mod RowsRead
