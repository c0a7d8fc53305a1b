pub mod Foreign
pub mod Kinds
pub mod Lines
pub mod Misread
pub mod Wrappings
