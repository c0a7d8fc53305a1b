pub mod ClaimsPlotted
pub mod DrawnOutcomes
