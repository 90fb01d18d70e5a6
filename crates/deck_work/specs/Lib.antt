pub mod DeckJobs
pub mod DeckLaws
pub mod KeepsDeck
pub mod DeckKeeps
