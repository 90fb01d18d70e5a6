pub use Rattle.solo_base.specs.Card
pub use Rattle.solo_base.specs.Ident
pub mod Control
pub mod Jobs
pub mod JobReader
pub mod Numeral
pub mod Completed
