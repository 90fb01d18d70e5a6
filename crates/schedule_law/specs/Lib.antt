pub mod NoneCounted
