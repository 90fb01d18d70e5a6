pub mod Scan
pub mod Judged
pub mod Pages
pub mod Cutting
pub mod Taking
pub mod CardItems
