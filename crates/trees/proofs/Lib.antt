-- The laws of keys and of packed bytes.
pub mod Past
pub mod Packed
