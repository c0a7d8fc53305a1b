pub mod RouteCosts
pub mod CutLists
pub mod FirstFaults
pub mod FilledRoutes
pub mod Improving
pub mod RouteSteps
pub mod ServedCustomers
