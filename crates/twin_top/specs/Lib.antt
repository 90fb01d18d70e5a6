pub mod Words
pub mod Kit
pub mod Runs
pub mod Mounting
pub mod Answers
