pub mod Status
pub mod Decides
pub mod CountsLine
pub mod Told
