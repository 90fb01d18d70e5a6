pub mod Cutting
pub mod Collecting
pub mod Numbers
pub mod Many
