-- The definitions, in reading order: the numbers, what a call answers, and what it leaves in an output.
pub mod Numbers
pub mod Outcomes
pub mod Outputs
