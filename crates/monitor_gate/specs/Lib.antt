pub mod Kind
pub mod Lists
pub mod Views
pub mod Rule
pub mod Steps
pub mod Ends
pub mod Inside
pub mod Calls
