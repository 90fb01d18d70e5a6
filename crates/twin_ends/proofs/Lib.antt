pub mod AsTwins
