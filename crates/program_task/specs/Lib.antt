pub mod Task
pub mod Program
pub mod Arguments
pub mod OpenFiles
pub mod Characters
pub mod Table
pub mod Run
pub mod Laws
