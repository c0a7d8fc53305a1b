pub mod BoundedRuns
pub mod FreshCounts
pub mod NextTrials
pub mod KickParts
pub mod TrialRuns
pub mod TrialResults
