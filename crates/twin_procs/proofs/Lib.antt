pub mod Stops
pub mod Machines
pub mod Answering
pub mod EndSteps
pub mod InputSteps
pub mod OutputSteps
pub mod JobSteps
