pub mod Said
pub mod Machine
pub mod Closing
pub mod Hands
pub mod Standing
pub mod Job
pub mod Output
