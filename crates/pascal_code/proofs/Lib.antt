mod WorkedListings
pub mod SensesAgree
pub mod SizesOfNames
pub mod SizesOfExpressions
pub mod SizesOfStatements
pub mod SizesOfPrograms
