-- The definitions, in reading order; Inner is for functions over entries that were judged.
pub mod Rows
pub mod Values
pub mod Inner
