pub mod First
pub mod Came
pub mod Rows
pub mod Blocks
