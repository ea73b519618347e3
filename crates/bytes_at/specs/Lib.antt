-- The definitions, in reading order; Inner is for proofs and inner functions.
pub mod Fields
pub mod Bits
pub mod Walks
pub mod Inner
