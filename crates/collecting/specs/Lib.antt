-- The definitions, in reading order.
pub mod Collecting
pub mod More
pub mod Samples
pub mod Useless
