pub use Rattle.stack_code.specs.CodeFile
pub use Rattle.stack_code.specs.Rules
pub mod Contents
pub mod Loading
