pub mod TwinCalls
pub mod TwinTells
