-- The statement: no number is too large to be told.
pub mod Whole
