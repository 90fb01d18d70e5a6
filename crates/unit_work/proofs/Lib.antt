pub mod ByUnits
pub mod WholeBatch
