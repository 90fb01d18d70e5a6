pub mod Pausing
pub mod Working
pub mod Facing
pub mod Cards
pub mod StoreLines
