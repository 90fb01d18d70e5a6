pub mod Queues
pub mod Room
pub mod Desk
pub mod Dealt
