pub mod Trees
mod WorkedPrograms
mod Sentences
mod Order
mod Edges
mod Rows
mod InBatch
pub mod Steady
mod SteadyCalls
mod SteadyExpressions
mod SteadyStatements
pub mod Answering
mod BatchReplies
mod CardsRead
