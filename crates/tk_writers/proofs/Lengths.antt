pub mod ListLength
pub mod MatrixLength
pub mod ShortMatrix
