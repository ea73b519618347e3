-- The definitions, in reading order.
pub mod Lines
pub mod Records
