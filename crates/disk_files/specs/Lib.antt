pub use Rattle.solo_devices.specs.Area
pub use Rattle.solo_devices.specs.Count
pub use Rattle.disk_layout.specs.Files
pub use Rattle.disk_layout.specs.Format
pub use Rattle.disk_layout.specs.Disk
pub mod Answers
