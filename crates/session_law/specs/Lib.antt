pub mod Plans
pub mod Tells
pub mod Passing
