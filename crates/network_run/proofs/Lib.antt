pub mod Along
pub mod Picking
pub mod RunMore
pub mod OneRun
