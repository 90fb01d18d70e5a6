pub mod Fifo
pub mod Circle
pub mod Sides
pub mod Turn
pub mod HandsOver
pub mod BetweenTwo
