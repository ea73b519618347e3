-- The marked examples: their bytes, and what is said of each.
pub mod Sections
pub mod Marked
