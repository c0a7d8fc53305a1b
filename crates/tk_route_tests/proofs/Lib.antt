pub mod FilledRoutes
pub mod OnLiterals
pub mod TourElements
