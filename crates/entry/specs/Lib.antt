-- The definitions, in reading order; Inner is for functions over a section that was judged.
pub mod Records
pub mod Entries
pub mod Inner
