pub mod Pages
pub mod Parcels
pub mod Phases
pub mod Meeting
