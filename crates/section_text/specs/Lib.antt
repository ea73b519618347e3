-- The definitions, in reading order; Inner is for functions over a section that was judged.
pub mod Fields
pub mod Texts
pub mod Inner
