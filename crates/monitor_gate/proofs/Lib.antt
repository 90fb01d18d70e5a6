pub mod Lists
pub mod Stays
pub mod Moves
pub mod Deals
pub mod Closes
pub mod Held
pub mod Pairs
