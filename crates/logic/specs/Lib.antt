-- The definitions, in reading order.
pub mod Choices
pub mod Loops
pub mod Inner
