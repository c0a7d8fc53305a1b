pub mod EuclidTables
pub mod InPlane
pub mod SortedInsertion
pub mod KeptCandidates
pub mod DeterminedLists
pub mod CandidateInserted
pub mod FlatLists
pub mod ShorterLists
