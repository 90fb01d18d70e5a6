mod AllSmooth
mod AllDone
pub mod TheCounts
