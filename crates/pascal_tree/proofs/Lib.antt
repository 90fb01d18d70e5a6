pub mod Following
mod Joined
pub mod UniqueConstant
pub mod UniqueExpression
pub mod UniqueProgram
pub mod UniqueStatement
mod WorkedRules
