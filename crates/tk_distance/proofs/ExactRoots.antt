pub mod Covering
pub mod RootLemmas
pub mod Rounding
pub mod Units
