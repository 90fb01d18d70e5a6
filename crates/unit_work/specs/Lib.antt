pub mod CoreBatch
pub mod TwinBatch
