-- The definitions, in reading order.
pub mod Calls
pub mod Inner
