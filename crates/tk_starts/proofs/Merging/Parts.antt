pub mod HubApart
pub mod PartLoads
pub mod PartsConnected
pub mod PartsJoined
