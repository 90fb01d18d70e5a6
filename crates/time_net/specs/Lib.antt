pub mod TaskSteps
pub mod TableCalls
pub mod Standing
pub mod TimeStands
pub mod Falls
pub mod TimesRuns
