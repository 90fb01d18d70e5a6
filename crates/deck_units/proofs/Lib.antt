pub mod UnitJobs
mod Examples
