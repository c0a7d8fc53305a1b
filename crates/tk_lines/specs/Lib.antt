pub mod HeaderValue
pub mod Lists
pub mod Pieces
pub mod Reader
