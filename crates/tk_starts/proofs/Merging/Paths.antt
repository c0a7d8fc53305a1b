pub mod EndsJoined
pub mod JoinTest
pub mod NeighbourArrays
pub mod OnePath
pub mod PathLists
pub mod PathWalked
pub mod PathsRead
