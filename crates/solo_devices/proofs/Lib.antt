mod Judging
mod Cutting
mod Reading
mod Giving
mod Spoiling
mod Harming
