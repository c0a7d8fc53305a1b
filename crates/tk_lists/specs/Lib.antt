pub mod Reader
pub mod Solution
pub mod Tour
