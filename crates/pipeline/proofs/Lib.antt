pub mod AtEnds
pub mod Calls
pub mod Composed
pub mod Full
pub mod Parts
pub mod Turns
