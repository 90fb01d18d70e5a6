pub mod Fitting
pub mod Pieces
pub mod Lines
pub mod Told
pub mod Passing
