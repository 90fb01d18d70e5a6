mod Inputs
mod Printed
pub mod Bytes
mod Onward
mod Steps
mod Fitting
pub mod Courses
pub mod RunFor
pub mod RunSoFar
pub mod Source
pub mod MoreCards
pub mod Words
pub mod WordsKept
pub mod FewLines
