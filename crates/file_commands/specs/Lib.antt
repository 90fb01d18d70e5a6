pub mod Faults
pub mod Settling
pub mod Counting
pub mod Stores
pub mod Texts
