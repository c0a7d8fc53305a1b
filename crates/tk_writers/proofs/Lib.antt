pub mod Lengths
pub mod MatrixLines
pub mod Pieces
pub mod ReadBack
pub mod WrittenLines
pub mod SolutionReadBack
pub mod TourReadBack
pub mod Written
