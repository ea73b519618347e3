-- The definitions, in reading order; Inner is for the private functions.
pub mod Descriptors
pub mod Places
pub mod Inner
