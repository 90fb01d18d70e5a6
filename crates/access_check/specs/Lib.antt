pub mod Cards
pub mod Places
pub mod Description
pub mod Judgement
pub mod Adding
pub mod Runs
pub mod RunRows
