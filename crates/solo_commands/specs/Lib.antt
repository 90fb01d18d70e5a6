pub use Rattle.deck_format.specs.Numeral
pub mod Words
pub mod Arguments
pub mod Commands
