pub mod Lists
pub mod MovesOnTours
pub mod OfferLists
pub mod WakeExecutions
