pub mod Characters
pub mod Sight
pub mod Sharing
pub mod Beginning
pub mod Steps
pub mod Work
