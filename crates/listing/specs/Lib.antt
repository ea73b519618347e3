-- The definitions, in reading order.
pub mod Listing
pub mod Steps
pub mod Runs
pub mod Examples
