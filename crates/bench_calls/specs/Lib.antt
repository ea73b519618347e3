-- What is measured, told as numbers.
pub mod Told
