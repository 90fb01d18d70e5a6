pub use Rattle.batch_program.specs.Outcome
pub use Rattle.pascal_mean.specs.Batch
pub use Rattle.code_law.specs.Compiling
pub use Rattle.code_law.specs.Texts
pub mod Task
pub mod Standing
pub mod Laws
