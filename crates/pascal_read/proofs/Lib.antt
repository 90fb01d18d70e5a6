pub mod Capitals
pub mod CardEnd
pub mod Comments
pub mod Digits
pub mod Fronts
pub mod Longest
mod ParseComplete
mod ParseCompleteConstant
mod ParseCompleteProgram
mod ParseCompleteStatement
pub mod ParseDeclarationLists
pub mod ParseDeclarationRows
mod ParseEnds
pub mod ParseExpressionParts
pub mod ParseJoined
pub mod ParseLists
pub mod ParseMade
pub mod ParseOnePlace
pub mod ParsePlace
pub mod ParseRows
pub mod ParseSpells
pub mod ParseSpellsBack
mod ParseSpellsCases
mod ParseSpellsDeclaration
mod ParseSpellsExpression
mod ParseSpellsOffer
mod ParseSpellsStatement
pub mod ParseStatementLists
pub mod ParseStatementParts
pub mod ParseStatementRows
mod ParseStuck
pub mod ParseTokens
pub mod ParseWhole
pub mod Program
pub mod Steps
pub mod WordsKeep
