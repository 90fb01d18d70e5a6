mod SixOutcomes
mod Reasons
mod Ran
mod Areas
mod Mounted
mod Complete
mod Printed
mod Paper
