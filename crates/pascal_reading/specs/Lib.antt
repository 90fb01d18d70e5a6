pub mod Parts
pub mod Making
pub mod Reading
