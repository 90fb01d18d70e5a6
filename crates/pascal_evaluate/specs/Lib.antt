pub mod SeenNames
pub mod SeenStore
pub mod SeenSetting
pub mod Ran
pub mod Rows
pub mod Turns
