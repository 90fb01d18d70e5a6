mod PartsRead
mod WordCases
mod MadeExpressions
mod MadeStatements
mod MadeDeclarations
mod PartsMade
pub mod Readings
