mod SpoolVisits
mod Performing
mod Stepping
mod MayPerforming
mod Entering
mod Causing
mod NetSteps
mod Turning
mod Asking
mod Finishing
mod FaultsCounted
pub mod WholeRuns
mod Within
