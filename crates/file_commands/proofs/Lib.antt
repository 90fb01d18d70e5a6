pub mod Changes
pub mod Rooms
pub mod Copies
pub mod Printed
pub mod Reading
