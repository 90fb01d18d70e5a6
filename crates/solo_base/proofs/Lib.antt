mod Decimals
mod Trimming
mod Cuts
mod Names
mod Parting
mod Copies
mod Found
