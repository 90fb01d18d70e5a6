mod ProgramGroups
pub mod LinesSoFar
mod LowLimits
pub mod FewLines
mod Account
pub mod PushingLines
mod Adding
mod RunLines
mod Making
pub mod NamedFiles
pub mod GoodFiles
mod PrintedTexts
mod NamedOpeners
mod NoteLines
mod ProgramLines
pub mod ReportLines
