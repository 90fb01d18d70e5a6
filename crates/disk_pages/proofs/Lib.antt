pub mod OneBit
pub mod MarkedPages
pub mod KeptMap
pub mod BitMaps
