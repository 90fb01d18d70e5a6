pub mod Table
pub mod CodeLists
pub mod CodeFile
pub mod Rules
pub mod Listing
pub mod Targets
pub mod Along
