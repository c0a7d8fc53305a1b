pub mod Requested
pub mod SearchOf
pub mod Entries
pub mod Keys
pub mod Params
pub mod Reader
pub mod Values
