-- The definitions, in reading order; Inner is for a title that was read into an array.
pub mod Titles
pub mod Inner
