-- The definitions, in reading order; Inner is for the functions over titles.
pub mod Ascii
pub mod Titles
pub mod Output
pub mod Inner
