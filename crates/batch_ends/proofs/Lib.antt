mod DeviceVisits
pub mod ToldCards
pub mod DamagedPages
