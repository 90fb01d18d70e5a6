pub mod Going
pub mod Giving
pub mod FewLines
