pub mod Needs
pub mod Handing
