-- The definitions, in reading order.
pub mod Meaning
pub mod Changes
pub mod Replies
pub mod Inner
