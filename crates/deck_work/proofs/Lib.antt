pub mod OneThread
mod Works
