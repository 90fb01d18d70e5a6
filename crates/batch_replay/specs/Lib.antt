pub mod FiveRan
pub mod Deeds
pub mod Told
