pub mod PieceLookups
pub mod PieceValues
pub mod ReportedFaults
