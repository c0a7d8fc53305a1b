pub mod HeaderValues
pub mod Names
pub mod Placed
pub mod Problem
pub mod ProblemOf
pub mod Reader
pub mod Sections
