-- The definitions, in reading order; Inner is for functions over numbers that were tested.
pub mod Written
pub mod Inner
